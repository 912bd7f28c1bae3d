-- The term's count says where it begins; ids that no log has put it below.
use mathlib.Core.Path.{◌≡◌, ap, ◌∙◌}
use Prim.Native.Nat.{ℕ, ◌+◌, ◌*◌, ◌≤◌, min}
use native.Mathlib.Nat.{mul-le-mul_right}
use native.Mathlib.Omega.{arith}
use Rattle.replay.specs.InPlace.{stop_at}
use Rattle.replay.proofs.InPlace.{stop-none, stop-by}
use borrow.Author.Rules.{rules}
use Rattle.replay.proofs.frames.stop_at.Statement.{statement}
use Rattle.replay.proofs.frames.stop_at.Tie as tie

returns : tie.Need-returns-then-count-gt2147483647
returns c = let a = c.args in stop-none a.v (omega (arith, c.id_minus-count.ensures, c.if-count-gt2147483647.true))

-- the count is in range
low : (c : tie.Else-count-gt2147483647) → c.id_minus-count.result ≤ 2147483647
low c = omega arith

begin-high : (c : tie.Else-count-gt2147483647) → let a = c.args in c.id_minus-count.result * a.v.term ≤ 2147483647 * a.v.term
begin-high c = mul-le-mul_right c.args.v.term (low c)

mul-begin : tie.Need-overflow_mul-begin
mul-begin c = omega (arith, begin-high c.before, c.requires.1.1)

add-result : tie.Need-overflow_add-result
add-result c = omega (arith, begin-high c.before.before.before.before, c.requires.1.1, c.if-v.true)

add-result-2 : tie.Need-overflow_add-result-else-v
add-result-2 c = omega (arith, begin-high c.before.before.before.before, c.requires.1.1)

by : (c : tie.Else-count-gt2147483647) (e : ℕ) → let a = c.args in e ≡ min a.v.offset a.v.term → c.id_minus-count.result * a.v.term + e ≡ stop_at a.v
by c e q =
    let a = c.args in
    ap (λ (d : ℕ). d * a.v.term + e) c.id_minus-count.ensures ∙ stop-by a.v e (omega (arith, c.id_minus-count.ensures, low c)) q

returns-2 : tie.Need-returns-then-v
returns-2 c = by c.before.before.before.before c.args.v.offset (omega (arith, c.if-v.true))

returns-3 : tie.Need-returns-else-v
returns-3 c = by c.before.before.before.before c.args.v.term (omega (arith, c.if-v.false))

pub stop_at_spec : {M : Type 1} → statement M
stop_at_spec = tie.close (tie.spec (search rules) (search rules) (search rules) (search rules) returns mul-begin add-result add-result-2 returns-2 returns-3)
