-- A half, a pair or a flag of a word that was handed on: it is that of the word given.
use mathlib.Core.Path.{◌≡◌, ap, ap₂, ◌∙◌}
use lib.IntN.{ℤ}
use mir.Syntax.{w32, w64}
use mir.Val.{SFits, of_z, to_z}
use mir.Facts.{to_z-of_z}
use Rattle.capi.specs.Words.{low_of, high_of, pair_of}
use Rattle.capi.proofs.Promised.{promised, promised64}

pub low_by : {z : ℤ} (w : ℤ) → z ≡ low_of (to_z w64 (of_z w64 w)) → SFits w64 w → SFits w32 z → to_z w32 (of_z w32 z) ≡ low_of w
low_by w e f g = promised (e ∙ ap low_of (to_z-of_z f)) g

pub high-by : {z : ℤ} (w : ℤ) → z ≡ high_of (to_z w64 (of_z w64 w)) → SFits w64 w → SFits w32 z → to_z w32 (of_z w32 z) ≡ high_of w
high-by w e f g = promised (e ∙ ap high_of (to_z-of_z f)) g

pub pair-by : {z : ℤ} (a b : ℤ) → z ≡ pair_of (to_z w32 (of_z w32 a)) (to_z w32 (of_z w32 b)) → SFits w32 a → SFits w32 b → SFits w64 z
    → to_z w64 (of_z w64 z) ≡ pair_of a b
pair-by a b e f g h = promised64 (e ∙ ap₂ pair_of (to_z-of_z f) (to_z-of_z g)) h
