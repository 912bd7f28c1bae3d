-- Bit by bit.
use Rattle.std.proofs.Common.{◌≡◌, ℕ, ◌+◌, ◌*◌, ◌/◌, ◌%◌, ◌<◌, max, eqb, bit_or, sym, refl, ap, ◌∙◌, ap₂, arith}
use lib.Bits.{or_step, and_mask}
use borrow.Author.Tests.{eqb-true, eqb-false}
use Rattle.model.proofs.Both.{test}
use Rattle.holding.specs.Within.{newer, bits_with}
use Rattle.holding.proofs.laying.bits_with.Goals as goal

greater : (a b : ℕ) → max (a % 2) (b % 2) ≡ newer (b % 2) 1 (a % 2)
greater a b =
    test (eqb (b % 2) 1)
    (λ e. let n = eqb-true (b % 2) 1 e in rw e (omega arith))
    (λ e. let n = eqb-false (b % 2) 1 e in rw e (omega arith))

below : (a b : ℕ) → newer (b % 2) 1 (a % 2) < 2
below a b = omega (arith, sym (greater a b))

bit : (a b c d : ℕ) → a / 2 ≡ c → b / 2 ≡ d → bit_or a b ≡ bit_or c d * 2 + newer (b % 2) 1 (a % 2)
bit a b c d p q = or_step a b ∙ ap₂ (λ (x y : ℕ). bit_or x y * 2 + max (a % 2) (b % 2)) p q ∙ ap (λ (n : ℕ). bit_or c d * 2 + n) (greater a b)

six : (o p q r s t u a b c d e f : ℕ) → o ≡ p * 2 + a → p ≡ q * 2 + b → q ≡ r * 2 + c → r ≡ s * 2 + d → s ≡ t * 2 + e → t ≡ u * 2 + f
    → a < 2 → b < 2 → c < 2 → d < 2 → e < 2 → f < 2 → o % 64 ≡ a + 2 * b + 4 * c + 8 * d + 16 * e + 32 * f
six o p q r s t u a b c d e f g h i j k l m n v w x y = omega arith

pub returns : goal.returns
unfolding bits_with
returns c =
    let a = c.args.old in
    let b = c.args.new in
    and_mask (bit_or a b) 6
    ∙ six _ _ _ _ _ _ (bit_or (a / 64) (b / 64)) _ _ _ _ _ _
    (bit a b (a / 2) (b / 2) refl refl)
    (bit (a / 2) (b / 2) (a / 4) (b / 4) (omega arith) (omega arith))
    (bit (a / 4) (b / 4) (a / 8) (b / 8) (omega arith) (omega arith))
    (bit (a / 8) (b / 8) (a / 16) (b / 16) (omega arith) (omega arith))
    (bit (a / 16) (b / 16) (a / 32) (b / 32) (omega arith) (omega arith))
    (bit (a / 32) (b / 32) (a / 64) (b / 64) (omega arith) (omega arith))
    (below a b) (below (a / 2) (b / 2)) (below (a / 4) (b / 4)) (below (a / 8) (b / 8)) (below (a / 16) (b / 16)) (below (a / 32) (b / 32))
