-- A turn puts one byte in front of those that were read.
use Rattle.std.proofs.Common.{ℕ, ◌+◌, ◌-◌, ◌*◌, ◌<◌, get_or, refl, ap, ◌∙◌, arith}
use native.Mathlib.Nat.{sub_self}
use Rattle.card.specs.Bytes.{number}
use Rattle.card.proofs.Fields.{number-turn, pow-turn, fits}
use Rattle.card.proofs.field.get.Goals as goal

pub loop-i-init : goal.loop-i-init
unfolding number
loop-i-init c = record { same = rw sub_self refl; in_width = rw sub_self (omega arith) }

small : (c : goal.After-from) → c.loop-i.n < 16777216
small c = fits 3 c.loop-i.invariant.in_width (omega arith)

pub overflow_mul-n : goal.overflow_mul-n
overflow_mul-n c = omega (arith, small c)

pub overflow_add-n : goal.overflow_add-n
overflow_add-n c = omega (arith, small c)

pub loop-i-preserved : goal.loop-i-preserved
loop-i-preserved c =
    let l = c.loop-i in
    let s = c.args in record {
      same =
          ap (λ (x : ℕ). x + 256 * l.n) (c.from.ensures ∙ c.byte.ensures) ∙ ap (λ (x : ℕ). get_or s.bytes.now (s.at + (l.i - 1)) 0 + 256 * x) l.invariant.same
          ∙ number-turn s.bytes.now s.at s.width l.i (omega arith) (omega arith);
      in_width = omega (arith, pow-turn s.width l.i (omega arith) (omega arith));
    }
