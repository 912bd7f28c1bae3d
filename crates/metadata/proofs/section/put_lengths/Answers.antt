-- Four pieces, one behind the other.
use Rattle.std.proofs.Common.{◌≡◌, ℤ, ◌≤◌, length, ap, ◌∙◌, arith, rules, w32, to_z, of_z}
use Rattle.model.specs.Bytes.{le4, word, zeros, splice}
use Rattle.model.proofs.Splice.{length-zeros}
use Rattle.metadata.specs.Metadata.{lengths}
use Rattle.metadata.proofs.Parts.{first, then, length4, right-4}
use Rattle.metadata.proofs.section.put_lengths.Goals as goal

pub returns : goal.returns
unfolding lengths
returns c =
    let r = c.args.rec in
    let o = c.args.out.now in
    let h : 272 ≤ length o = omega arith in
    let k0 : to_z w32 (of_z w32 (r.mtu_length)) ≡ r.mtu_length = search rules in
    let n0 = le4 (word r.mtu_length) in
    let p0 = first o 272 n0 4 (length4 _) (c.put_i32.ensures ∙ ap (λ (z : ℤ). splice o 272 (le4 (word z))) k0) in
    let k1 : to_z w32 (of_z w32 (r.term_length)) ≡ r.term_length = search rules in
    let n1 = le4 (word r.term_length) in
    let p1 = then n1 4 p0 h (length4 _) (c.put_i32-2.ensures ∙ ap (λ (z : ℤ). splice c.put_i32.new.out 276 (le4 (word z))) k1) in
    let k2 : to_z w32 (of_z w32 (r.page_size)) ≡ r.page_size = search rules in
    let n2 = le4 (word r.page_size) in
    let p2 = then n2 4 p1 h (length4 _) (c.put_i32-3.ensures ∙ ap (λ (z : ℤ). splice c.put_i32-2.new.out 280 (le4 (word z))) k2) in
    let n3 = zeros 36 in
    let p3 = then n3 36 p2 h (length-zeros 36) c.put_zeros.ensures in
    p3.is ∙ ap (splice o 272) (right-4 n0 n1 n2 n3)
