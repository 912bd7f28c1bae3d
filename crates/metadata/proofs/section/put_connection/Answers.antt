-- Four pieces, one behind the other.
use Rattle.std.proofs.Common.{◌≡◌, ℤ, ◌≤◌, length, ap, ◌∙◌, arith, rules, w32, w64, to_z, of_z}
use Rattle.model.specs.Bytes.{le4, le8, word, long, zeros, splice}
use Rattle.model.proofs.Splice.{length-zeros}
use Rattle.metadata.specs.Metadata.{connection}
use Rattle.metadata.proofs.Parts.{first, then, length4, length8, right-4}
use Rattle.metadata.proofs.section.put_connection.Goals as goal

pub returns : goal.returns
unfolding connection
returns c =
    let r = c.args.rec in
    let o = c.args.out.now in
    let h : 128 ≤ length o = omega arith in
    let k0 : to_z w64 (of_z w64 (r.end_of_stream_position)) ≡ r.end_of_stream_position = search rules in
    let n0 = le8 (long r.end_of_stream_position) in
    let p0 = first o 128 n0 8 (length8 _) (c.put_i64.ensures ∙ ap (λ (z : ℤ). splice o 128 (le8 (long z))) k0) in
    let k1 : to_z w32 (of_z w32 (r.is_connected)) ≡ r.is_connected = search rules in
    let n1 = le4 (word r.is_connected) in
    let p1 = then n1 4 p0 h (length4 _) (c.put_i32.ensures ∙ ap (λ (z : ℤ). splice c.put_i64.new.out 136 (le4 (word z))) k1) in
    let k2 : to_z w32 (of_z w32 (r.active_transport_count)) ≡ r.active_transport_count = search rules in
    let n2 = le4 (word r.active_transport_count) in
    let p2 = then n2 4 p1 h (length4 _) (c.put_i32-2.ensures ∙ ap (λ (z : ℤ). splice c.put_i32.new.out 140 (le4 (word z))) k2) in
    let n3 = zeros 112 in
    let p3 = then n3 112 p2 h (length-zeros 112) c.put_zeros.ensures in
    p3.is ∙ ap (splice o 128) (right-4 n0 n1 n2 n3)
