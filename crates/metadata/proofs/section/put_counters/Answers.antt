-- Five pieces, one behind the other.
use Rattle.std.proofs.Common.{◌≡◌, ℤ, ◌≤◌, length, ap, ◌∙◌, arith, rules, w32, w64, to_z, of_z}
use Rattle.model.specs.Bytes.{le4, le8, word, long, zeros, splice}
use Rattle.model.specs.LogBufferDescriptor.{tail_of}
use Rattle.model.proofs.Splice.{length-zeros}
use Rattle.metadata.specs.Metadata.{counters}
use Rattle.metadata.proofs.Parts.{first, then, length4, length8, right-5}
use Rattle.metadata.proofs.section.put_counters.Goals as goal

pub returns : goal.returns
unfolding counters
returns c =
    let r = c.args.rec in
    let o = c.args.out.now in
    let h : 0 ≤ length o = omega arith in
    let k0 : to_z w64 (of_z w64 (tail_of r 0)) ≡ tail_of r 0 = search rules in
    let n0 = le8 (long (tail_of r 0)) in
    let p0 = first o 0 n0 8 (length8 _) (c.put_i64.ensures ∙ ap (λ (z : ℤ). splice o 0 (le8 (long z))) k0) in
    let k1 : to_z w64 (of_z w64 (tail_of r 1)) ≡ tail_of r 1 = search rules in
    let n1 = le8 (long (tail_of r 1)) in
    let p1 = then n1 8 p0 h (length8 _) (c.put_i64-2.ensures ∙ ap (λ (z : ℤ). splice c.put_i64.new.out 8 (le8 (long z))) k1) in
    let k2 : to_z w64 (of_z w64 (tail_of r 2)) ≡ tail_of r 2 = search rules in
    let n2 = le8 (long (tail_of r 2)) in
    let p2 = then n2 8 p1 h (length8 _) (c.put_i64-3.ensures ∙ ap (λ (z : ℤ). splice c.put_i64-2.new.out 16 (le8 (long z))) k2) in
    let k3 : to_z w32 (of_z w32 (r.active_term_count)) ≡ r.active_term_count = search rules in
    let n3 = le4 (word r.active_term_count) in
    let p3 = then n3 4 p2 h (length4 _) (c.put_i32.ensures ∙ ap (λ (z : ℤ). splice c.put_i64-3.new.out 24 (le4 (word z))) k3) in
    let n4 = zeros 100 in
    let p4 = then n4 100 p3 h (length-zeros 100) c.put_zeros.ensures in
    p4.is ∙ ap (splice o 0) (right-5 n0 n1 n2 n3 n4)
