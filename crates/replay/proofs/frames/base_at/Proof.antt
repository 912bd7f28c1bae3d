-- Of the same term the base is the one that is there; of another it is worked out.
use mathlib.Core.Path.{◌≡◌, sym, ap, ◌∙◌}
use Prim.Native.Nat.{ℕ, ◌*◌, ◌/◌, ◌%◌, ◌≤◌}
use native.Mathlib.Nat.{mul-le-mul_right}
use native.Mathlib.Omega.{arith}
use Rattle.replay.proofs.frames.base_at.Statement.{statement}
use Rattle.replay.proofs.frames.base_at.Tie as tie

high : (s : tie.Start) → s.args.p / s.args.term % 3 * s.args.term ≤ 2 * s.args.term
high s = mul-le-mul_right s.args.term (omega arith)

returns : tie.Need-returns-then-count-number
returns c =
    let s = c in
    let a = s.args in
    let e : a.number ≡ a.p / a.term = sym c.if-count-number.true ∙ s.requires.1.1 in
    let h = s.requires.1.0 ∙ ap (λ (x : ℕ). x % 3 * a.term) e in
    (h, omega (arith, h, high c.before, s.requires.0))

as-count : (s : tie.Start) → s.args.count % 3 * s.args.term ≡ s.args.p / s.args.term % 3 * s.args.term
as-count s = ap (λ (x : ℕ). x % 3 * s.args.term) s.requires.1.1

mul-result : tie.Need-overflow_mul-result
mul-result c = let s = c in record { fits = omega (arith, as-count c.before, high c.before, s.requires.0) }

returns-2 : tie.Need-returns
returns-2 c = let s = c in (as-count c.before, omega (arith, as-count c.before, high c.before, s.requires.0))

pub base_at_spec : {M : Type 1} → statement M
base_at_spec = tie.close (tie.spec returns mul-result returns-2)
