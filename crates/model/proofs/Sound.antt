-- Row 2: what a sound reading says, that it is sound where that holds, and the bounds that follow.
use mathlib.Core.Path.{◌≡◌, refl, sym, ap, ◌∙◌}
use mathlib.Core.Bool.{Bool, true, false}
use Prim.Native.Nat.{ℕ, ◌+◌, ◌-◌, ◌*◌, ◌%◌, ◌^◌, ◌≤◌, ◌<◌}
use native.Mathlib.Omega.{arith}
use native.Mathlib.Nat.{mul-le-mul}
use lib.Pow.{pow-add}
use borrow.Author.Tests.{le-leb, leb-true, eqb-true, eq-eqb}
use lib.Dec.{eqb, leb}
use lib.Count.{ones, count_trailing_zeros}
use Rattle.model.specs.declared.LogRecord.{LogRecord}
use Rattle.model.specs.declared.Reading.{Reading}
use Rattle.model.specs.LogBufferDescriptor.{reading_of, greatest, sound_record, sound, Sound}
use Rattle.model.proofs.Power.{power, shift-low}
use Rattle.model.proofs.Both.{and-true}

pub sound-true : (v : Reading) (n : ℕ) → sound v n ≡ true → Sound v n
unfolding sound sound_record
sound-true v n h =
    let p0 = and-true (sound_record v) _ h in
    let p1 = and-true (leb 65536 v.term) _ p0.0 in
    let p2 = and-true (leb v.term 1073741824) _ p1.1 in
    let p3 = and-true (eqb (ones v.term) 1) _ p2.1 in
    let p4 = and-true (leb 64 v.mtu) _ p3.1 in
    let p5 = and-true (leb v.mtu 65504) _ p4.1 in
    let p6 = and-true (eqb (v.mtu % 32) 0) _ p5.1 in
    let p7 = and-true (leb v.count 2147483647) _ p6.1 in
    let p8 = and-true (leb v.limit 4611686018427387904) _ p7.1 in
    let p9 = and-true (leb v.slowest (greatest v)) _ p8.1 in
    let p10 = and-true (eqb (v.slowest % 32) 0) _ p9.1 in
    let p11 = and-true (eqb (v.offset % 32) 0) _ p10.1 in
    record {
      term-low = leb-true _ _ p1.0;
      term-high = leb-true _ _ p2.0;
      one_bit = eqb-true _ _ p3.0;
      mtu-low = leb-true _ _ p4.0;
      mtu-high = leb-true _ _ p5.0;
      mtu-32 = eqb-true _ _ p6.0;
      count-high = leb-true _ _ p7.0;
      limit-high = leb-true _ _ p8.0;
      slowest-high = leb-true _ _ p9.0;
      slowest-32 = eqb-true _ _ p10.0;
      offset-32 = eqb-true _ _ p11.0;
      offset-high = leb-true _ _ p11.1;
      three = eqb-true _ _ p0.1;
    }

pub not_sound : (v : Reading) (n : ℕ) → (Sound v n → ⊥) → false ≡ sound v n
not_sound v n never = go (sound v n) refl
  where
    go : (b : Bool) → sound v n ≡ b → false ≡ b
    go false e = refl
    go true e = absurd (never (sound-true v n e))

-- where all but the length of the log is as it should be
pub sound-by : (v : Reading) (n : ℕ) → 65536 ≤ v.term → v.term ≤ 1073741824 → ones v.term ≡ 1 → 64 ≤ v.mtu → v.mtu ≤ 65504 → v.mtu % 32 ≡ 0
    → v.count ≤ 2147483647 → v.limit ≤ 4611686018427387904 → v.slowest ≤ greatest v → v.slowest % 32 ≡ 0 → v.offset % 32 ≡ 0 → v.offset ≤ 2147483647 → eqb n (3 * v.term) ≡ sound v n
unfolding sound sound_record
sound-by v n h1 h2 h3 h4 h5 h6 h7 h8 h9 h10 h11 h12 =
    simp (le-leb _ _ h1, le-leb _ _ h2, eq-eqb _ _ h3, le-leb _ _ h4, le-leb _ _ h5, eq-eqb _ _ h6, le-leb _ _ h7, le-leb _ _ h8, le-leb _ _ h9, eq-eqb _ _ h10, eq-eqb _ _ h11, le-leb _ _ h12)

mul-32 : (r : ℕ) → 16 ≤ r → 2 ^ r % 32 ≡ 0
mul-32 r h =
    let e : 5 + (r - 5) ≡ r = omega arith in
    let p : 2 ^ (5 + (r - 5)) ≡ 2 ^ 5 * 2 ^ (r - 5) = pow-add 2 5 (r - 5) in
    let q : 2 ^ r ≡ 32 * 2 ^ (r - 5) = ap (λ (x : ℕ). 2 ^ x) (sym e) ∙ p in
    omega arith

-- a term is a multiple of 32, so that a header goes into what is left of it
pub term-32 : (v : Reading) (n : ℕ) → Sound v n → v.term % 32 ≡ 0
term-32 v n s =
    let big : v.term < 2 ^ 31 = omega (arith, s.term-high) in
    let e : 2 ^ count_trailing_zeros 31 v.term ≡ v.term = power 31 v.term big s.one_bit in
    let z : 2 ^ count_trailing_zeros 31 v.term % 32 ≡ 0 = mul-32 _ (shift-low _ _ e s.term-low) in
    ap (λ (x : ℕ). x % 32) (sym e) ∙ z

pub id-small : (r : LogRecord) (k : ℕ) → (reading_of r k).id < 4294967296
unfolding reading_of
id-small r k = omega arith

pub offset-small : (r : LogRecord) (k : ℕ) → (reading_of r k).offset < 4294967296
unfolding reading_of
offset-small r k = omega arith

pub initial-small : (r : LogRecord) (k : ℕ) → (reading_of r k).initial < 4294967296
unfolding reading_of
initial-small r k = omega arith

-- what keeps positions far below 2^63
pub record Bounds (v : Reading) : Type 0 where
  pub term-most : v.term ≤ 1073741824
  pub count_most : v.count ≤ 2147483647
  pub offset-most : v.offset ≤ 2147483647

pub bounds : (v : Reading) (n : ℕ) → Sound v n → Bounds v
bounds v n s = record { term-most = s.term-high; count_most = s.count-high; offset-most = s.offset-high }

pub begin-most : (v : Reading) → Bounds v → v.count * v.term ≤ 2305843008139952128
begin-most v b = mul-le-mul b.count_most b.term-most
