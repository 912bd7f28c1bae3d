-- The partition by a shift, the offset by a mask.
use mathlib.Core.Path.{◌≡◌, ap, ap₂, ◌∙◌}
use Prim.Native.Nat.{ℕ, ◌+◌, ◌-◌, ◌*◌, ◌%◌, ◌≤◌, ◌<◌}
use native.Mathlib.Nat.{mod-lt, mul-le-mul_right}
use native.Mathlib.Omega.{arith}
use lib.Bits.{bit_and}
use Rattle.model.specs.LogBufferDescriptor.{partition_of, index_by_position}
use Rattle.logbuffer.proofs.Shifts.{offset-by, partition-by}
use borrow.Author.Rules.{rules}
use Rattle.replay.proofs.frames.index_at.Statement.{statement}
use Rattle.replay.proofs.frames.index_at.Tie as tie

part : (c : tie.After-index_by_position-k) → let a = c.args in c.index_by_position-k.result ≡ partition_of a.p a.term
part c =
    let s = c in
    c.index_by_position-k.ensures ∙ ap (index_by_position s.args.p) c.position_bits_to_shift-bits.ensures ∙ partition-by s.args.term s.requires.1.high (s.requires.1.one_bit s.requires.0) s.args.p

room : (c : tie.After-index_by_position-k) → let a = c.args in bit_and a.p (a.term - 1) ≡ a.p % a.term
room c = let s = c in offset-by s.args.term s.requires.1.high (s.requires.1.one_bit s.requires.0) s.args.p

near : (c : tie.After-index_by_position-k) → let a = c.args in (c.index_by_position-k.result * a.term ≤ 2 * a.term) × (a.p % a.term < a.term)
near c = let s = c in (mul-le-mul_right s.args.term (omega (arith, part c)), mod-lt s.args.p s.requires.0)

mul-result : tie.Need-overflow_mul-result
mul-result c = omega (arith, (near c).0, c.requires.1.high)

add-result : tie.Need-overflow_add-result
add-result c = omega (arith, (near c).0, (near c).1, room c, c.requires.1.high)

returns : tie.Need-returns
returns c = let a = c.args in ap₂ (λ (k o : ℕ). k * a.term + o) (part c) (room c)

pub index_at_spec : {M : Type 1} → statement M
index_at_spec = tie.close (tie.spec (λ c. omega (arith, c.requires.1.high)) (search rules) (search rules) mul-result (λ c. omega (arith, c.requires.0)) add-result returns)
