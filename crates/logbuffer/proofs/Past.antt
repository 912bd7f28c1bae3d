-- The position past a frame, exactly: its aligned length with its sign, and that each step of the sum fits 64 bits.
use Rattle.std.proofs.Common.{◌≡◌, ℕ, ◌+◌, ◌*◌, ◌/◌, ◌^◌, ◌<◌, ◌≤◌, ℤ, pos, negsuc, ◌+ℤ◌, ◌*ℤ◌, nat_abs, ap₂, arith, w32, w64, SFits, to_z, of_z}
use mir.Facts.{to_z_pos}
use Rattle.model.specs.TermReader.{alignℤ}
use Rattle.logbuffer.proofs.Signed.{lands, asks}
use Rattle.logbuffer.proofs.Exact.{near-sum, near-neg, near_fits, near-begin, near-position, position-fits}

-- bits below 2^63 are the number
plain : (n : ℕ) → n < 9223372036854775808 → to_z w64 n ≡ pos n
plain n h = to_z_pos w64 h

-- ---- the aligned length

pub near-aligned : (z : ℤ) → SFits w32 z → nat_abs (alignℤ z) ≤ 2147483680
near-aligned (pos n) f = omega arith
near-aligned (negsuc n) f = omega (arith, near-neg (pos ((n + 1) / 32 * 32)))

pub aligned-fits : (z : ℤ) → SFits w32 z → SFits w64 (alignℤ z)
aligned-fits z f = near_fits (alignℤ z) (omega (arith, near-aligned z f))

-- ---- the position, step by step: from where the term begins, which the callee answered

module _ (z b : ℤ) (bits at : ℕ) (l : ℤ) (fz : SFits w32 z) (hb : bits ≤ 30) (eb : b ≡ z *ℤ pos (2 ^ bits)) (ha : at < 4294967296) (fl : SFits w32 l) where
  abbrev here : ℤ
  here = z *ℤ pos (2 ^ bits) +ℤ pos at

  begin-fits : SFits w64 (z *ℤ pos (2 ^ bits))
  begin-fits = near_fits (z *ℤ pos (2 ^ bits)) (omega (arith, near-begin z fz bits hb))

  here-is : to_z w64 (of_z w64 b) +ℤ to_z w64 at ≡ here
  here-is = ap₂ (λ (x y : ℤ). x +ℤ y) (lands eb begin-fits) (plain at (omega arith))

  pub here-asks : SFits w64 (to_z w64 (of_z w64 b) +ℤ to_z w64 at)
  here-asks = asks here-is (position-fits z fz bits hb at ha)

  pub here-lands : to_z w64 (of_z w64 (to_z w64 (of_z w64 b) +ℤ to_z w64 at)) ≡ here
  here-lands = lands here-is (position-fits z fz bits hb at ha)

  past_fits : SFits w64 (here +ℤ alignℤ l)
  past_fits = near_fits (here +ℤ alignℤ l) (omega (arith, near-position z fz bits hb at ha, near-sum here (alignℤ l), near-aligned l fl))

  -- with an aligned length that the callee answered
  module _ (a : ℤ) (ea : a ≡ alignℤ l) where
    past_is : to_z w64 (of_z w64 (to_z w64 (of_z w64 b) +ℤ to_z w64 at)) +ℤ to_z w64 (of_z w64 a) ≡ here +ℤ alignℤ l
    past_is = ap₂ (λ (x y : ℤ). x +ℤ y) here-lands (lands ea (aligned-fits l fl))

    pub past-asks : SFits w64 (to_z w64 (of_z w64 (to_z w64 (of_z w64 b) +ℤ to_z w64 at)) +ℤ to_z w64 (of_z w64 a))
    past-asks = asks past_is past_fits

    pub past-lands : to_z w64 (of_z w64 (to_z w64 (of_z w64 (to_z w64 (of_z w64 b) +ℤ to_z w64 at)) +ℤ to_z w64 (of_z w64 a))) ≡ here +ℤ alignℤ l
    past-lands = lands past_is past_fits
