-- The bits that either of two numbers has: their bounds, and the multiples of 32 that they tell of both.
use Rattle.std.proofs.Common.{◌≡◌, ℕ, ◌%◌, ◌<◌, ◌≤◌, sym, ◌∙◌, ap₂, arith}
use lib.Bits.{bit_or, or_add_and, and_le_l, and_le_r, or_mod, or_lt, or_zero_l}

pub left-most : (a b : ℕ) → a ≤ bit_or a b
left-most a b = let e = or_add_and a b in let h = and_le_r a b in omega arith

pub right-most : (a b : ℕ) → b ≤ bit_or a b
right-most a b = let e = or_add_and a b in let h = and_le_l a b in omega arith

pub both_below : (a b : ℕ) → a ≤ 2147483647 → b ≤ 2147483647 → bit_or a b ≤ 2147483647
both_below a b h k = let l : bit_or a b < 2147483648 = or_lt 31 a b (omega arith) (omega arith) in omega arith

pub both-multiples : (a b : ℕ) → a % 32 ≡ 0 → b % 32 ≡ 0 → bit_or a b % 32 ≡ 0
both-multiples a b h k = or_mod a b 5 ∙ ap₂ bit_or h k ∙ or_zero_l 0

pub left-multiple : (a b : ℕ) → bit_or a b % 32 ≡ 0 → a % 32 ≡ 0
left-multiple a b h = let e : bit_or (a % 32) (b % 32) ≡ 0 = sym (or_mod a b 5) ∙ h in let l = left-most (a % 32) (b % 32) in omega arith

pub right-multiple : (a b : ℕ) → bit_or a b % 32 ≡ 0 → b % 32 ≡ 0
right-multiple a b h = let e : bit_or (a % 32) (b % 32) ≡ 0 = sym (or_mod a b 5) ∙ h in let l = right-most (a % 32) (b % 32) in omega arith
