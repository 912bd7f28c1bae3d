-- Three pieces, one behind the other.
use Rattle.std.proofs.Common.{◌≡◌, ℤ, ◌≤◌, length, ap, ◌∙◌, arith, rules, w32, w64, to_z, of_z}
use Rattle.model.specs.Bytes.{le4, le8, word, long, splice}
use Rattle.metadata.specs.Metadata.{header_length, ids}
use Rattle.metadata.proofs.Parts.{first, then, length4, length8, right-3}
use Rattle.metadata.proofs.section.put_ids.Goals as goal

pub returns : goal.returns
unfolding ids
returns c =
    let r = c.args.rec in
    let o = c.args.out.now in
    let h : 256 ≤ length o = omega arith in
    let k0 : to_z w64 (of_z w64 (r.correlation_id)) ≡ r.correlation_id = search rules in
    let n0 = le8 (long r.correlation_id) in
    let p0 = first o 256 n0 8 (length8 _) (c.put_i64.ensures ∙ ap (λ (z : ℤ). splice o 256 (le8 (long z))) k0) in
    let k1 : to_z w32 (of_z w32 (r.initial_term_id)) ≡ r.initial_term_id = search rules in
    let n1 = le4 (word r.initial_term_id) in
    let p1 = then n1 4 p0 h (length4 _) (c.put_i32.ensures ∙ ap (λ (z : ℤ). splice c.put_i64.new.out 264 (le4 (word z))) k1) in
    let n2 = le4 header_length in
    let p2 = then n2 4 p1 h (length4 _) c.put_i32-2.ensures in
    p2.is ∙ ap (splice o 256) (right-3 n0 n1 n2)
