-- A number laid in its field and read back, and a field's bytes that are those of the number in it.
-- Cases is named here, so that the checker meets a wrong definition first in a fact about it.
use mathlib.Core.Path.{◌≡◌, refl, sym, ap, ap₂, ◌∙◌}
use Prim.Native.Nat.{ℕ, ◌+◌, ◌*◌, ◌/◌, ◌%◌, ◌≤◌, ◌<◌}
use mathlib.Core.List.{List, [], ◌∷◌, ◌++◌}
use native.Mathlib.Omega.{arith}
use lib.IntN.{ℤ, pos, negsuc}
use lib.ListN.{length, take, drop, get_or, length-drop}
use lib.Seq.{take-add, get_or-drop}
use mir.Facts.{to_z-of_z, of_z-to_z}
use mir.Syntax.{w32, w64}
use mir.Val.{Fits, SFits, to_z, of_z}
use Rattle.std.specs.Int.{to_le_bytes, from_le_bytes}
use Rattle.logbuffer.proofs.Bytes.{word_at, long-at}
use Rattle.model.specs.Bytes.{le4, le8, u32, u64, i32, i64, word, long}
use Rattle.model.proofs.Fields.{u32-le4, u64-le8}
use Rattle.metadata.proofs.Cases as Cases

-- ---- a number in its field

long-bound : (z : ℤ) → SFits w64 z → long z < 18446744073709551616
long-bound (pos n) f = omega arith
long-bound (negsuc n) f = omega arith

word_bound : (z : ℤ) → SFits w32 z → word z < 4294967296
word_bound (pos n) f = omega arith
word_bound (negsuc n) f = omega arith

pub back4 : (z : ℤ) → SFits w32 z → i32 (le4 (word z) ++ []) ≡ z
back4 z f = ap (to_z w32) (u32-le4 (word z) [] (word_bound z f)) ∙ to_z-of_z f

pub back8 : (z : ℤ) → SFits w64 z → i64 (le8 (long z) ++ []) ≡ z
back8 z f = ap (to_z w64) (u64-le8 (long z) [] (long-bound z f)) ∙ to_z-of_z f

-- a number that a call gave crosses by its bits and back again
pub kept4 : {z e : ℤ} → z ≡ e → SFits w32 z → to_z w32 (of_z w32 z) ≡ e
kept4 p f = to_z-of_z f ∙ p

pub kept8 : {z e : ℤ} → z ≡ e → SFits w64 z → to_z w64 (of_z w64 z) ≡ e
kept8 p f = to_z-of_z f ∙ p

-- ---- a number's bytes as the library has them

pub bytes4 : (n : ℕ) → to_le_bytes w32 n ≡ le4 n
unfolding le4
bytes4 n = refl

pub bytes8 : (n : ℕ) → to_le_bytes w64 n ≡ le8 n
unfolding le8 le4
bytes8 n =
    let e1 : n / 4294967296 / 256 ≡ n / 1099511627776 = omega arith in
    let e2 : n / 4294967296 / 65536 ≡ n / 281474976710656 = omega arith in
    let e3 : n / 4294967296 / 16777216 ≡ n / 72057594037927936 = omega arith in
    rw (e1, e2, e3)

pub word-bytes : (s : List ℕ) (at : ℕ)
    → from_le_bytes w32 (get_or s at 0 ∷ get_or s (at + 1) 0 ∷ get_or s (at + 2) 0 ∷ get_or s (at + 3) 0 ∷ []) ≡ u32 (drop at s)
word-bytes s at = omega (arith, word_at s at)

pub long-bytes : (s : List ℕ) (at : ℕ)
    → from_le_bytes w64 (get_or s at 0 ∷ get_or s (at + 1) 0 ∷ get_or s (at + 2) 0 ∷ get_or s (at + 3) 0 ∷ get_or s (at + 4) 0 ∷ get_or s (at + 5) 0 ∷ get_or s (at + 6) 0 ∷ get_or s (at + 7) 0 ∷ []) ≡ u64 (drop at s)
long-bytes s at =
    let e1 : at + 4 + 1 ≡ at + 5 = omega arith in
    let e2 : at + 4 + 2 ≡ at + 6 = omega arith in
    let e3 : at + 4 + 3 ≡ at + 7 = omega arith in
    let h = rw (e1, e2, e3) at (word_at s (at + 4)) in
    omega (arith, long-at s at, word_at s at, h)

-- ---- the bytes of a field

low : (a m : ℕ) → a < 256 → (a + 256 * m) % 256 ≡ a
low a m h = omega arith

four : (s : List ℕ) → 4 ≤ length s → ((i : ℕ) → get_or s i 0 < 256) → le4 (u32 s) ≡ take 4 s
unfolding le4 u32
four [] l h = absurd (omega arith)
four (a ∷ []) l h = absurd (omega arith)
four (a ∷ b ∷ []) l h = absurd (omega arith)
four (a ∷ b ∷ c ∷ []) l h = absurd (omega arith)
four (a ∷ b ∷ c ∷ d ∷ s) l h =
    let ha : a < 256 = h 0 in
    let hb : b < 256 = h 1 in
    let hc : c < 256 = h 2 in
    let hd : d < 256 = h 3 in
    let n = a + 256 * b + 65536 * c + 16777216 * d in
    let e0 : n ≡ a + 256 * (b + 256 * c + 65536 * d) = omega arith in
    let e1 : n / 256 ≡ b + 256 * (c + 256 * d) = omega arith in
    let e2 : n / 65536 ≡ c + 256 * d = omega arith in
    let e3 : n / 16777216 ≡ d + 256 * 0 = omega arith in
    ap₂ (λ (x y : ℕ). x ∷ y ∷ n / 65536 % 256 ∷ n / 16777216 % 256 ∷ []) (ap (λ (x : ℕ). x % 256) e0 ∙ low _ _ ha) (ap (λ (x : ℕ). x % 256) e1 ∙ low _ _ hb)
    ∙ ap₂ (λ (x y : ℕ). a ∷ b ∷ x ∷ y ∷ []) (ap (λ (x : ℕ). x % 256) e2 ∙ low _ _ hc) (ap (λ (x : ℕ). x % 256) e3 ∙ low d 0 hd)

u32-bound : (s : List ℕ) → ((i : ℕ) → get_or s i 0 < 256) → u32 s < 4294967296
unfolding u32
u32-bound s h = omega (arith, h 0, h 1, h 2, h 3)

byte_low : (n a m : ℕ) → n ≡ a + 256 * m → n % 256 ≡ a % 256
byte_low n a m e = omega arith

-- four bytes hold no more than a number's remainder
four_low : (a b : ℕ) → le4 (a + 4294967296 * b) ≡ le4 a
unfolding le4
four_low a b =
    let n = a + 4294967296 * b in
    let e0 : n ≡ a + 256 * (16777216 * b) = omega arith in
    let e1 : n / 256 ≡ a / 256 + 256 * (65536 * b) = omega arith in
    let e2 : n / 65536 ≡ a / 65536 + 256 * (256 * b) = omega arith in
    let e3 : n / 16777216 ≡ a / 16777216 + 256 * b = omega arith in
    ap₂ (λ (x y : ℕ). x ∷ y ∷ n / 65536 % 256 ∷ n / 16777216 % 256 ∷ []) (byte_low n a (16777216 * b) e0) (byte_low (n / 256) (a / 256) (65536 * b) e1)
    ∙ ap₂ (λ (x y : ℕ). a % 256 ∷ a / 256 % 256 ∷ x ∷ y ∷ []) (byte_low (n / 65536) (a / 65536) (256 * b) e2) (byte_low (n / 16777216) (a / 16777216) b e3)

module _ (s : List ℕ) (bytes : (i : ℕ) → get_or s i 0 < 256) (k : ℕ) where
  there : (j i : ℕ) → get_or (drop j s) i 0 < 256
  there j i = omega (arith, get_or-drop j s i 0, bytes (j + i))

  pub field_is : k + 4 ≤ length s → le4 (u32 (drop k s)) ≡ take 4 (drop k s)
  field_is h = four (drop k s) (omega (arith, length-drop k s)) (there k)

  pub field4 : k + 4 ≤ length s → le4 (word (i32 (drop k s))) ≡ take 4 (drop k s)
  field4 h =
      let f : Fits w32 (u32 (drop k s)) = record { fits = u32-bound (drop k s) (there k) } in
      ap le4 (of_z-to_z f) ∙ field_is h

  pub field8 : k + 8 ≤ length s → le8 (long (i64 (drop k s))) ≡ take 8 (drop k s)
  unfolding u64 le8
  field8 h =
      let x = drop k s in
      let a = u32 x in
      let b = u32 (drop 4 x) in
      let lx : 8 ≤ length x = omega (arith, length-drop k s) in
      let ba : a < 4294967296 = u32-bound x (there k) in
      let hb : (i : ℕ) → get_or (drop 4 x) i 0 < 256 = λ i. omega (arith, get_or-drop 4 x i 0, there k (4 + i)) in
      let bb : b < 4294967296 = u32-bound (drop 4 x) hb in
      let f : Fits w64 (a + 4294967296 * b) = record { fits = omega arith } in
      let q : (a + 4294967296 * b) / 4294967296 ≡ b = omega arith in
      ap le8 (of_z-to_z f)
      ∙ ap₂ (λ (u v : List ℕ). u ++ v) (four_low a b ∙ four x (omega arith) (there k)) (ap le4 q ∙ four (drop 4 x) (omega (arith, length-drop 4 x)) hb)
      ∙ sym (take-add 4 4 x)
