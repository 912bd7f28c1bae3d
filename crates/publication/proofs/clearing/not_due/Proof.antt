-- The tests pick the case.
use mathlib.Core.Path.{refl}
use Prim.Native.Nat.{◌-◌, ◌*◌, ◌≤◌}
use native.Mathlib.Nat.{mul-le-mul}
use native.Mathlib.Omega.{arith}
use borrow.Author.Rules.{rules}
use Rattle.publication.proofs.ClearLaws.{another, early, later}
use Rattle.publication.proofs.clearing.not_due.Statement.{statement}
use Rattle.publication.proofs.clearing.not_due.Tie as tie

returns : tie.Need-returns-then-k-count
returns c = another _ _ c.if-k-count.true

returns-2 : tie.Need-returns-then-count-lt2
returns-2 c = early _ _ c.if-k-count.false c.if-count-lt2.true

mul-end : tie.Need-overflow_mul-end
mul-end c =
    let s = c in
    let v = s.args.v in
    let n : v.count - 1 ≤ 2147483647 = omega (arith, s.requires.count_most) in
    let m : (v.count - 1) * v.term ≤ 2147483647 * 1073741824 = mul-le-mul n s.requires.term-most in
    omega arith

returns-3 : tie.Need-returns
returns-3 c = let a = c.args in later a.v a.k _ c.if-k-count.false c.if-count-lt2.false refl

pub not_due_spec : {M : Type 1} → statement M
not_due_spec = tie.close (tie.spec (search rules) returns returns-2 (search rules) mul-end returns-3)
