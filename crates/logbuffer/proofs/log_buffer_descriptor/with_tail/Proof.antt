-- The element that is stored is the raw tail, since a signed number that fits is the number of its bits.
use Rattle.std.proofs.Common.{◌≡◌, ◌+◌, ◌*◌, ◌%◌, set, ℤ, ap, ◌∙◌, arith, to_z-of_z, w64, to_z, rules}
use Rattle.model.specs.LogBufferDescriptor.{changed, with_tail, raw_of}
use Rattle.logbuffer.proofs.log_buffer_descriptor.with_tail.Statement.{statement}
use Rattle.logbuffer.proofs.log_buffer_descriptor.with_tail.Tie as tie

returns : tie.Need-returns
unfolding with_tail changed raw_of
returns c = let a = c.args in
    let e : a.id * 4294967296 + a.offset ≡ a.id % 4294967296 * 4294967296 + a.offset = omega (arith, c.requires) in
    ap (λ (z : ℤ). changed a.rec (set a.rec.tails a.k z) a.rec.active_term_count a.rec.publication_limit a.rec.is_closed) (to_z-of_z {w = w64} {z = c.to_i64.result} (search rules) ∙ c.to_i64.ensures ∙ ap (to_z w64) e)

pub with_tail_spec : {M : Type 1} → statement M
with_tail_spec =
    tie.close
    (tie.spec
    (search rules)
    (search rules)
    (search rules)
    (search rules)
    (search rules)
    returns)
