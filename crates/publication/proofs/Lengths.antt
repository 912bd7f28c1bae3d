-- A length that is not below 0 is the number of its bits.
use mathlib.Core.Path.{◌≡◌, sym, ap, subst, ◌∙◌}
use mathlib.Core.Bool.{false}
use native.Mathlib.Omega.{arith}
use lib.Dec.{T}
use lib.IntN.{ℤ, pos, negsuc, nat_abs}
use lib.Signed.{lt_z, non_neg}
use mir.Syntax.{w32, w64}
use mir.Val.{Fits, SFits, to_z, of_z}
use mir.Facts.{to_z-of_z}
use Rattle.logbuffer.proofs.Signs.{not_negative}

pub length-bits : (z : ℤ) → SFits w32 z → lt_z (to_z w32 (of_z w32 z)) (pos 0) ≡ false → nat_abs (to_z w32 (of_z w32 z)) ≡ of_z w32 z
length-bits (pos n) f h = ap nat_abs (to_z-of_z f) ∙ omega arith
length-bits (negsuc n) f h = absurd (omega (arith, not_negative (negsuc n) f h))

pub length-casts : (z : ℤ) → SFits w32 z → lt_z (to_z w32 (of_z w32 z)) (pos 0) ≡ false → T (non_neg (to_z w32 (of_z w32 z))) × Fits w64 (nat_abs (to_z w32 (of_z w32 z)))
length-casts (pos n) f h = subst (λ (x : ℤ). T (non_neg x) × Fits w64 (nat_abs x)) (sym (to_z-of_z f)) (tt, record { fits = omega arith })
length-casts (negsuc n) f h = absurd (omega (arith, not_negative (negsuc n) f h))
