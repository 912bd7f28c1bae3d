-- A number's bytes as the library has them are its field's, both ways, and a number cut to a field's width has the same field.
use Rattle.std.proofs.Common.{◌≡◌, ℕ, ◌+◌, ◌/◌, ◌%◌, List, [], ◌∷◌, length, get_or, drop, refl, ap, ◌∙◌, arith, w16, w32, w64}
use lib.Bits.{bit_and, and_mask}
use Rattle.std.specs.Int.{to_le_bytes, from_le_bytes}
use Rattle.model.specs.Bytes.{le2, le4, le8, u16, u32, u64}
use Rattle.logbuffer.proofs.Bytes.{half_at, word_at, long-at}

-- ---- read

pub half-bytes : (s : List ℕ) (at : ℕ) → from_le_bytes w16 (get_or s at 0 ∷ get_or s (at + 1) 0 ∷ []) ≡ u16 (drop at s)
half-bytes s at = omega (arith, half_at s at)

pub word-bytes : (s : List ℕ) (at : ℕ)
    → from_le_bytes w32 (get_or s at 0 ∷ get_or s (at + 1) 0 ∷ get_or s (at + 2) 0 ∷ get_or s (at + 3) 0 ∷ []) ≡ u32 (drop at s)
word-bytes s at = omega (arith, word_at s at)

pub long-bytes : (s : List ℕ) (at : ℕ)
    → from_le_bytes w64 (get_or s at 0 ∷ get_or s (at + 1) 0 ∷ get_or s (at + 2) 0 ∷ get_or s (at + 3) 0 ∷ get_or s (at + 4) 0 ∷ get_or s (at + 5) 0 ∷ get_or s (at + 6) 0 ∷ get_or s (at + 7) 0 ∷ []) ≡ u64 (drop at s)
long-bytes s at =
    let e1 : at + 4 + 1 ≡ at + 5 = omega arith in
    let e2 : at + 4 + 2 ≡ at + 6 = omega arith in
    let e3 : at + 4 + 3 ≡ at + 7 = omega arith in
    let h = rw (e1, e2, e3) at (word_at s (at + 4)) in
    omega (arith, long-at s at, word_at s at, h)

-- ---- written

cut2 : (n : ℕ) → le2 (n % 65536) ≡ le2 n
unfolding le2
cut2 n =
    let e0 : n % 65536 % 256 ≡ n % 256 = omega arith in
    let e1 : n % 65536 / 256 % 256 ≡ n / 256 % 256 = omega arith in
    rw (e0, e1)

cut4 : (n : ℕ) → le4 (n % 4294967296) ≡ le4 n
unfolding le4
cut4 n =
    let e0 : n % 4294967296 % 256 ≡ n % 256 = omega arith in
    let e1 : n % 4294967296 / 256 % 256 ≡ n / 256 % 256 = omega arith in
    let e2 : n % 4294967296 / 65536 % 256 ≡ n / 65536 % 256 = omega arith in
    let e3 : n % 4294967296 / 16777216 % 256 ≡ n / 16777216 % 256 = omega arith in
    rw (e0, e1, e2, e3)

pub bytes2 : (n : ℕ) → to_le_bytes w16 (bit_and n 65535) ≡ le2 n
unfolding le2
bytes2 n = ap le2 (and_mask n 16) ∙ cut2 n

pub bytes4 : (n : ℕ) → to_le_bytes w32 (bit_and n 4294967295) ≡ le4 n
unfolding le4
bytes4 n = ap le4 (and_mask n 32) ∙ cut4 n

pub bytes8 : (n : ℕ) → to_le_bytes w64 n ≡ le8 n
unfolding le8 le4
bytes8 n =
    let e1 : n / 4294967296 / 256 ≡ n / 1099511627776 = omega arith in
    let e2 : n / 4294967296 / 65536 ≡ n / 281474976710656 = omega arith in
    let e3 : n / 4294967296 / 16777216 ≡ n / 72057594037927936 = omega arith in
    rw (e1, e2, e3)

pub length2 : (n : ℕ) → length (le2 n) ≡ 2
unfolding le2
length2 n = refl

pub length4 : (n : ℕ) → length (le4 n) ≡ 4
unfolding le4
length4 n = refl

pub length8 : (n : ℕ) → length (le8 n) ≡ 8
unfolding le8 le4
length8 n = refl
