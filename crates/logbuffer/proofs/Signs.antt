-- The sign of a 32-bit number, told by its bits.
use Rattle.std.proofs.Common.{◌≡◌, ℕ, zero, suc, ◌-◌, ◌<◌, ◌≤◌, true, false, ℤ, pos, negsuc, ◌-ℤ◌, neg_ℤ, sym, refl, ap, ◌∙◌, arith, to_z-of_z, w32, Fits, SFits, to_z, of_z, ltb-true, lt-ltb}
use lib.Signed.{lt_z}
use mir.Facts.{of_z-to_z, to_z_pos}
use Rattle.model.specs.FrameDescriptor.{negated}
use Rattle.logbuffer.proofs.Signed.{asks}

pub negative : (z : ℤ) → SFits w32 z → lt_z (to_z w32 (of_z w32 z)) (pos 0) ≡ true → 2147483648 ≤ of_z w32 z
negative z f h = go z f (ap (λ (x : ℤ). lt_z x (pos 0)) (sym (to_z-of_z f)) ∙ h)
  where
    go : (y : ℤ) → SFits w32 y → lt_z y (pos 0) ≡ true → 2147483648 ≤ of_z w32 y
    go (pos n) f t = absurd (omega (arith, ltb-true n 0 t))
    go (negsuc n) f t = omega arith

pub not_negative : (z : ℤ) → SFits w32 z → lt_z (to_z w32 (of_z w32 z)) (pos 0) ≡ false → of_z w32 z < 2147483648
not_negative z f h = go z f (ap (λ (x : ℤ). lt_z x (pos 0)) (sym (to_z-of_z f)) ∙ h)
  where
    go : (y : ℤ) → SFits w32 y → lt_z y (pos 0) ≡ false → of_z w32 y < 2147483648
    go (pos n) f t = omega arith
    go (negsuc n) f t = absurd (let z : ◌≡◌ {A = ℕ} 0 1 = cc in omega arith)

-- bits made a signed number, and taken as bits again; and so when it was passed on between
pub bits32 : (z : ℤ) (u v : ℕ) → z ≡ to_z w32 u → u ≡ v → u < 4294967296 → of_z w32 z ≡ v
bits32 z u v e q h =
    let f : Fits w32 u = record { fits = h } in
    ap (of_z w32) e ∙ of_z-to_z f ∙ q

pub back32 : (z : ℤ) (u v : ℕ) → z ≡ to_z w32 u → u ≡ v → u < 4294967296 → of_z w32 (to_z w32 (of_z w32 z)) ≡ v
back32 z u v e q h =
    let k = bits32 z u u e refl h in
    ap (λ (n : ℕ). of_z w32 (to_z w32 n)) k ∙ bits32 (to_z w32 u) u v refl q h

-- three signed arguments, passed on
pub passed_on : {A : Type 0} (f : ℤ → ℤ → ℤ → A) (x y z : ℤ) → SFits w32 x → SFits w32 y → SFits w32 z
    → f (to_z w32 (of_z w32 x)) (to_z w32 (of_z w32 y)) (to_z w32 (of_z w32 z)) ≡ f x y z
passed_on f x y z a b c =
    ap (λ (i : ℤ). f i (to_z w32 (of_z w32 y)) (to_z w32 (of_z w32 z))) (to_z-of_z a) ∙ ap (λ (i : ℤ). f x i (to_z w32 (of_z w32 z))) (to_z-of_z b) ∙ ap (f x y) (to_z-of_z c)

-- ---- a length negated

zero-sub : (m : ℕ) → pos 0 -ℤ pos m ≡ neg_ℤ (pos m)
zero-sub zero = refl
zero-sub (suc m) = let e : suc m - suc 0 ≡ m = omega arith in rw (lt-ltb 0 (suc m) (omega arith)) (ap negsuc e)

minus : (m : ℕ) → suc m ≤ 2147483647 → pos 0 -ℤ to_z w32 (suc m) ≡ negsuc m
minus m h = let small : suc m < 2147483648 = omega arith in ap (λ (x : ℤ). pos 0 -ℤ x) (to_z_pos w32 small) ∙ zero-sub (suc m)

minus-small : (m : ℕ) → suc m ≤ 2147483647 → SFits w32 (negsuc m)
minus-small m h = record { sfits = omega arith }

pub minus-fits : (n : ℕ) → 0 < n → n ≤ 2147483647 → SFits w32 (pos 0 -ℤ to_z w32 n)
minus-fits zero l h = absurd (omega arith)
minus-fits (suc m) l h = asks (minus m h) (minus-small m h)

pub minus-bits : (n : ℕ) → 0 < n → n ≤ 2147483647 → of_z w32 (pos 0 -ℤ to_z w32 n) ≡ negated n
minus-bits zero l h = absurd (omega arith)
minus-bits (suc m) l h = ap (of_z w32) (minus m h)
