-- Exact sums, differences and products of signed numbers, by how far each lies from 0: what is near enough to 0 fits 64 bits.
use Rattle.std.proofs.Common.{◌≡◌, ℕ, zero, suc, ◌+◌, ◌-◌, ◌*◌, ◌^◌, ◌<◌, ◌≤◌, Bool, true, false, cond, ltb, ℤ, pos, negsuc, ◌+ℤ◌, ◌*ℤ◌, neg_ℤ, nat_abs, refl, mul-le-mul, arith, pow_mono, w32, w64, SFits, ltb-true}
use lib.IntN.{sub_ℕ}

near_sub : (a b : ℕ) → nat_abs (sub_ℕ a b) ≤ a + b
near_sub a b = go (ltb a b) refl
  where
    go : (t : Bool) → ltb a b ≡ t → nat_abs (cond t (negsuc (b - suc a)) (pos (a - b))) ≤ a + b
    go true e = omega (arith, ltb-true a b e)
    go false e = omega arith

pub near-sum : (a b : ℤ) → nat_abs (a +ℤ b) ≤ nat_abs a + nat_abs b
near-sum (pos a) (pos b) = omega arith
near-sum (pos a) (negsuc b) = near_sub a (suc b)
near-sum (negsuc a) (pos b) = omega (arith, near_sub b (suc a))
near-sum (negsuc a) (negsuc b) = omega arith

pub near-neg : (a : ℤ) → nat_abs (neg_ℤ a) ≡ nat_abs a
near-neg (pos zero) = refl
near-neg (pos (suc n)) = refl
near-neg (negsuc n) = refl

pub near_times : (a : ℤ) (m : ℕ) → nat_abs (a *ℤ pos m) ≡ nat_abs a * m
near_times (pos n) m = refl
near_times (negsuc n) m = near-neg (pos (suc n * m))

pub near-32 : (a : ℤ) → SFits w32 a → nat_abs a ≤ 2147483648
near-32 (pos n) f = omega arith
near-32 (negsuc n) f = omega arith

pub near_fits : (a : ℤ) → nat_abs a < 9223372036854775808 → SFits w64 a
near_fits (pos n) h = record { sfits = omega arith }
near_fits (negsuc n) h = record { sfits = omega arith }

-- ---- a position: count × 2^bits + offset, the count a signed number of 32 bits

module _ (a : ℤ) (fa : SFits w32 a) (bits : ℕ) (h : bits ≤ 30) where
  pub begin-near : nat_abs a * 2 ^ bits ≤ 2305843009213693952
  begin-near =
      let m : nat_abs a * 2 ^ bits ≤ 2147483648 * 2 ^ 30 = mul-le-mul (near-32 a fa) (pow_mono h) in
      omega arith

  pub near-begin : nat_abs (a *ℤ pos (2 ^ bits)) ≤ 2305843009213693952
  near-begin = omega (arith, near_times a (2 ^ bits), begin-near)

  pub near-position : (offset : ℕ) → offset < 4294967296 → nat_abs (a *ℤ pos (2 ^ bits) +ℤ pos offset) ≤ 2305843013508661248
  near-position offset k = omega (arith, near-begin, near-sum (a *ℤ pos (2 ^ bits)) (pos offset))

  pub position-fits : (offset : ℕ) → offset < 4294967296 → SFits w64 (a *ℤ pos (2 ^ bits) +ℤ pos offset)
  position-fits offset k = near_fits (a *ℤ pos (2 ^ bits) +ℤ pos offset) (omega (arith, near-position offset k))
