-- Each row that refuses says no; behind them the stop says.
use mathlib.Core.Path.{◌≡◌, refl, sym, ap, ◌∙◌}
use mathlib.Core.Bool.{Bool, true, false, not}
use Prim.Native.Nat.{ℕ}
use native.Mathlib.Omega.{arith}
use borrow.Author.Tests.{not-true, not-false, le-leb, lt-leb, ltb-true, ltb-false}
use lib.Dec.{leb, ltb}
use Rattle.replay.specs.InPlace.{stop_at}
use borrow.Author.Rules.{rules}
use Rattle.replay.proofs.InPlace.{over-unsound, over-high, over-off, over_by_lem}
use Rattle.replay.proofs.frames.is_over.Statement.{statement}
use Rattle.replay.proofs.frames.is_over.Tie as tie

returns : tie.Need-returns-then-not-is_sound
returns c = let a = c.args in over-unsound a.v a.n a.p (sym c.is_sound.ensures ∙ not-true _ c.if-not-is_sound.true-raw)

returns-2 : tie.Need-returns-then-p-v
returns-2 c = let a = c.args in over-high a.v a.n a.p (omega arith)

returns-3 : tie.Need-returns-then-p-ne0
returns-3 c = let a = c.args in over-off a.v a.n a.p c.if-p-ne0.true

-- one order or the other
either : (p s : ℕ) → leb s p ≡ not (ltb p s)
either p s = go (ltb p s) refl
  where
    go : (b : Bool) → ltb p s ≡ b → leb s p ≡ not b
    go true e = lt-leb s p (ltb-true p s e)
    go false e = le-leb s p (ltb-false p s e)

returns-4 : tie.Need-returns
returns-4 c =
    let a = c.args in
    ap (λ (s : ℕ). leb s a.p) c.stop_at.ensures ∙ either a.p (stop_at a.v) ∙ over_by_lem a.v a.n a.p (sym c.is_sound.ensures ∙ not-false _ c.if-not-is_sound.false-raw) (omega arith) c.if-p-ne0.false

pub is_over_spec : {M : Type 1} → statement M
is_over_spec = tie.close (tie.spec (search rules) returns (λ c. omega (arith, c.requires.1.1)) returns-2 returns-3 (λ c κs. c.requires) returns-4)
