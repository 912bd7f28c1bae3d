-- Limit positions.
use mathlib.Core.Path.{◌≡◌, refl, sym, ap, ◌∙◌}
use mathlib.Core.Bool.{true, false}
use Prim.Native.Nat.{ℕ}
use native.Mathlib.Omega.{arith}
use borrow.Author.Tests.{ltb-true}
use lib.IntN.{ℤ, pos, negsuc}
use lib.Signed.{lt_z}
use mir.Syntax.{w64}
use mir.Val.{SFits, to_z, of_z}
use mir.Facts.{to_z-of_z}
use Rattle.model.specs.TermReader.{natural}

-- a limit position as readers take it: 0 for one below 0
module _ (z : ℤ) (f : SFits w64 z) where
  pub below-zero : lt_z (to_z w64 (of_z w64 z)) (pos 0) ≡ true → 0 ≡ natural z
  below-zero h = go z f (ap (λ (x : ℤ). lt_z x (pos 0)) (sym (to_z-of_z f)) ∙ h)
    where
      go : (y : ℤ) → SFits w64 y → lt_z y (pos 0) ≡ true → 0 ≡ natural y
      go (pos n) g t = absurd (omega (arith, ltb-true n 0 t))
      go (negsuc n) g t = refl

  pub not-below : lt_z (to_z w64 (of_z w64 z)) (pos 0) ≡ false → of_z w64 z ≡ natural z
  not-below h = go z f (ap (λ (x : ℤ). lt_z x (pos 0)) (sym (to_z-of_z f)) ∙ h)
    where
      go : (y : ℤ) → SFits w64 y → lt_z y (pos 0) ≡ false → of_z w64 y ≡ natural y
      go (pos n) g t = omega arith
      go (negsuc n) g t = absurd (let x : ◌≡◌ {A = ℕ} 0 1 = cc in omega arith)
