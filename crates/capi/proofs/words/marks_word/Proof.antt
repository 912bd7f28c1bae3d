-- Three bits stand below the bits that are kept, so that the sum is in range.
use mathlib.Core.Path.{◌≡◌, ap, ◌∙◌}
use mathlib.Core.Bool.{Bool, true, false}
use Prim.Native.Nat.{ℕ, ◌+◌, ◌*◌, ◌/◌, ◌≤◌, ◌<◌}
use native.Mathlib.Omega.{arith}
use lib.IntN.{ℤ}
use lib.ListN.{get_or}
use mir.Syntax.{w64}
use mir.Val.{to_z}
use Rattle.model.specs.declared.LogRecord.{LogRecord}
use Rattle.capi.specs.Words.{bit_number, mark_bit, marks_word}
use Rattle.capi.proofs.Promised.{promised64}
use borrow.Author.Rules.{rules}
use Rattle.capi.proofs.words.marks_word.Statement.{statement}
use Rattle.capi.proofs.words.marks_word.Tie as tie

same : (n : ℕ) (r : LogRecord) (z : ℤ) (x y k : ℕ) → z ≡ to_z w64 (n / 8 * 8 + (x + 2 * y + 4 * k)) → x ≡ mark_bit r 0 → y ≡ mark_bit r 1 → k ≡ mark_bit r 2 → z ≡ marks_word n r
same n r z x y k e f g h = cc

bit-low : (b : Bool) → bit_number b ≤ 1
bit-low true = omega arith
bit-low false = omega arith

module _ (c : tie.After-bit_number-third) where
  abbrev n : ℕ
  n = c.args.bits

  abbrev r : LogRecord
  r = c.args.next

  first-is : c.bit_number-first.result ≡ mark_bit r 0
  first-is = c.bit_number-first.ensures

  second_is : c.bit_number-second.result ≡ mark_bit r 1
  second_is = c.bit_number-second.ensures

  third-is : c.bit_number-third.result ≡ mark_bit r 2
  third-is = c.bit_number-third.ensures

  low : (k : ℕ) → mark_bit r k ≤ 1
  low k = bit-low (get_or r.is_cleared k false)

  lows : (n / 8 < 2305843009213693952) × ((c.bit_number-first.result ≤ 1) × ((c.bit_number-second.result ≤ 1) × (c.bit_number-third.result ≤ 1)))
  lows =
      (omega (arith, c.ranges.bits), (omega (arith, first-is, low 0), (omega (arith, second_is, low 1), omega (arith, third-is, low 2))))

returns : tie.Need-returns
returns c =
    let d = c in
    same (n c.before) (r c.before) _ _ _ _ (promised64 c.to_i64.ensures (search rules)) (first-is c.before) (second_is c.before) (third-is c.before)

pub marks_word_spec : {M : Type 1} → statement M
marks_word_spec =
    tie.close
    (tie.spec
    (search rules) (search rules) (search rules) (search rules) (search rules) (search rules)
    (search rules)
    (λ c. omega (arith, lows c))
    (λ c. omega (arith, lows c))
    (λ c. omega (arith, lows c))
    (λ c. omega (arith, lows c))
    (λ c. omega (arith, lows c))
    (search rules)
    returns)
