-- The bits put together are those of the three tails and of the claim's offset, and no bit is lost.
use Rattle.std.proofs.Common.{◌≡◌, ◌<◌, ℤ, ap, ◌∙◌, ap₂, arith, to_z-of_z, w32, w64, SFits, rules}
use lib.Bits.{bit_or, or_lt}
use mir.Facts.{of_z-to_z}
use Rattle.model.specs.Bytes.{long}
use Rattle.logbuffer.specs.Reads.{reading_with, reading_by}
use Rattle.logbuffer.specs.Commits.{all_bits}
use Rattle.logbuffer.proofs.Signed.{word-by, long-by}
use Rattle.logbuffer.proofs.buffer_claim.read_all.Statement.{statement}
use Rattle.logbuffer.proofs.buffer_claim.read_all.Tie as tie

offset-fits : (s : tie.Start) → SFits w32 s.args.claim.offset
offset-fits s = search rules

returns : tie.Need-returns
unfolding reading_with
returns c =
    let s = c in
    let r = s.args.rec in
    let a = c in
    let b = c in
    let d = c in
    let w = c in
    let e0 = long-by a.tail.result a.long-first.ensures.0 (let h = a.tail.type_inv in search (rules, h)) ∙ ap long a.tail.ensures in
    let e1 = long-by b.tail-2.result b.long-second.ensures.0 (let h = b.tail-2.type_inv in search (rules, h)) ∙ ap long b.tail-2.ensures in
    let e2 = long-by d.tail-3.result d.long-third.ensures.0 (let h = d.tail-3.type_inv in search (rules, h)) ∙ ap long d.tail-3.ensures in
    let e3 = word-by s.args.claim.offset w.word.ensures.0 (offset-fits c.before.before.before.before.before.before.before.before.before.before) in
    let l = bit_or (bit_or (bit_or a.long-first.result b.long-second.result) d.long-third.result) w.word.result in
    let small : l < 18446744073709551616 = or_lt 64 _ _ (or_lt 64 _ _ (or_lt 64 _ _ a.long-first.ensures.1 b.long-second.ensures.1) d.long-third.ensures.1) (omega (arith, w.word.ensures.1)) in
    let all : l ≡ all_bits r s.args.claim = ap₂ bit_or (ap₂ bit_or (ap₂ bit_or e0 e1) e2) e3 in
    c.read_with.ensures
    ∙ ap (λ (raw : ℤ). reading_by r (long raw)) (to_z-of_z {w = w64} (let h = c.to_i64.type_inv in search (rules, h)) ∙ c.to_i64.ensures)
    ∙ ap (reading_by r) (of_z-to_z {w = w64} (record { fits = small }) ∙ all)

pub read_all_spec : {M : Type 1} → statement M
read_all_spec =
    tie.close
    (tie.spec
    (search rules)
    (search rules)
    (search rules)
    (search rules)
    (search rules)
    (search rules)
    (search rules)
    (search rules)
    (search rules)
    returns)
