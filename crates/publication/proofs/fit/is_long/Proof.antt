-- A test that fails settles the conjunction.
use mathlib.Core.Path.{◌≡◌, sym, ap, ◌∙◌}
use mathlib.Core.Bool.{Bool, true, not, ◌&&◌}
use Prim.Native.Nat.{◌-◌}
use native.Mathlib.Omega.{arith}
use borrow.Author.Tests.{not-true, not-false, le-ltb}
use borrow.Author.Rules.{rules}
use Rattle.publication.specs.Fits.{unpressed, is_long}
use Rattle.publication.proofs.Fits.{unpressed-true, long-is}
use Rattle.publication.proofs.fit.is_long.Statement.{statement}
use Rattle.publication.proofs.fit.is_long.Tie as tie

below : (c : tie.Else-not-is_unpressed) → unpressed c.args.v c.args.n ≡ true
below c = sym c.is_unpressed.ensures ∙ not-false _ c.if-not-is_unpressed.false-raw

returns : tie.Need-returns-then-not-is_unpressed
unfolding is_long
returns c = simp (sym c.is_unpressed.ensures ∙ not-true _ c.if-not-is_unpressed.true-raw)

returns-2 : tie.Need-returns-then-m-v
unfolding is_long
returns-2 c =
    let a = c.args in
    simp (below c.before.before, le-ltb (a.v.mtu - 32) a.m c.if-m-v.true)

module _ (c : tie.After-too_long) where
  abbrev s : tie.Start
  s = c.before.before.before.before.before

  by : (not c.too_long.result && not s.args.v.closed) ≡ is_long s.args.v s.args.n s.args.m
  by = long-is s.args.v s.args.n s.args.m (below c.before.before.before) c.if-m-v.false _ c.too_long.ensures

returns-3 : tie.Need-returns-then-too_long
returns-3 c = sym (ap (λ (b : Bool). not b && not (s c.before).args.v.closed) c.if-too_long.true) ∙ by c.before

returns-4 : tie.Need-returns
returns-4 c = sym (ap (λ (b : Bool). not b && not (s c.before.before).args.v.closed) c.if-too_long.false) ∙ by c.before.before

pub is_long_spec : {M : Type 1} → statement M
is_long_spec =
    tie.close
    (tie.spec
    (search rules)
    returns
    (λ c. omega (arith, (unpressed-true _ _ (below c.before)).so.mtu-low))
    returns-2
    (λ c κs. omega (arith, (unpressed-true _ _ (below c.before.before)).so.mtu-low))
    returns-3
    returns-4)
