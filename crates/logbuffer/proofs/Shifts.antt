-- Positions by the bits to shift. A term of one bit is the power of two that its trailing zeros say, so that what a shift or a mask gives is
-- the product, the quotient or the remainder of the definitions.
use Rattle.std.proofs.Common.{◌≡◌, ℕ, zero, suc, ◌+◌, ◌-◌, ◌*◌, ◌%◌, ◌^◌, ◌<◌, ◌≤◌, ℤ, pos, negsuc, ◌*ℤ◌, neg_ℤ, nat_abs, sym, ap, ◌∙◌, mod-eq_of_lt, add-mul, mul-le-mul, mul-one, arith, w64, to_z, of_z}
use lib.Bits.{bit_and, and_mask}
use lib.Count.{ones, count_trailing_zeros}
use mir.Facts.{to_z_pos, to_z-neg}
use Rattle.model.specs.LogBufferDescriptor.{partition_of, index_by_position}
use Rattle.model.proofs.Power.{power, shift-high}

module _ (term : ℕ) (high : term ≤ 1073741824) (one : ones term ≡ 1) where
  pub shifted : 2 ^ count_trailing_zeros 32 term ≡ term
  shifted = power 32 term (omega arith) one

  pub bits-high : count_trailing_zeros 32 term ≤ 30
  bits-high = shift-high _ term shifted high

  -- a position's offset in its term, and its partition
  pub offset-by : (p : ℕ) → bit_and p (term - 1) ≡ p % term
  offset-by p = ap (λ (x : ℕ). bit_and p (x - 1)) (sym shifted) ∙ and_mask p _ ∙ ap (λ (x : ℕ). p % x) shifted

  pub partition-by : (p : ℕ) → index_by_position p (count_trailing_zeros 32 term) ≡ partition_of p term
  partition-by p = ap (partition_of p) shifted

  -- the position at which a term begins
  pub begin-by : (n : ℕ) → n * term < 18446744073709551616 → n * 2 ^ count_trailing_zeros 32 term % 18446744073709551616 ≡ n * term
  begin-by n h = ap (λ (x : ℕ). n * x % 18446744073709551616) shifted ∙ mod-eq_of_lt h

-- a signed number shifted to the left, where the product fits
below : (x : ℕ) → 0 < x → negsuc (x - 1) ≡ neg_ℤ (pos x)
below zero h = absurd (omega arith)
below (suc n) h = let e : suc n - 1 ≡ n = omega arith in ap negsuc e

pub left_by : (d : ℤ) (t : ℕ) → 0 < t → nat_abs d * t < 9223372036854775808 → to_z w64 (of_z w64 d * t % 18446744073709551616) ≡ d *ℤ pos t
left_by (pos n) t z h = let l : n * t < 18446744073709551616 = omega arith in ap (to_z w64) (mod-eq_of_lt l) ∙ to_z_pos w64 h
left_by (negsuc n) t z h =
    let some : suc n * 1 ≤ suc n * t = mul-le-mul (omega arith) z in
    let full : 18446744073709551616 - suc n + suc n ≡ 18446744073709551616 = omega (arith, mul-one (suc n)) in
    let whole : (18446744073709551616 - suc n) * t + suc n * t ≡ 18446744073709551616 * t = sym (add-mul _ (suc n) t) ∙ ap (λ (x : ℕ). x * t) full in
    let e : (18446744073709551616 - suc n) * t % 18446744073709551616 ≡ 18446744073709551616 - suc (suc n * t - 1) = omega arith in
    ap (to_z w64) e ∙ to_z-neg w64 (suc n * t - 1) (omega arith) ∙ below (suc n * t) (omega arith)
