-- A turn stores the lowest byte that is left; behind the last there is none.
use Rattle.std.proofs.Common.{◌≡◌, ℕ, ◌+◌, ◌-◌, ◌/◌, ◌%◌, sym, ap, ◌∙◌, arith}
use Rattle.card.specs.Bytes.{le, splice}
use Rattle.card.proofs.Fields.{le-turn}
use Rattle.card.proofs.Laid.{turn, splice-none}
use Rattle.card.proofs.field.put.Goals as goal

pub loop-i-preserved : goal.loop-i-preserved
loop-i-preserved c =
    let l = c.loop-i in
    let s = c.args in
    turn l.out s.at l.i (l.left % 256) _ (le (s.width - (l.i + 1)) (l.left / 256)) (omega (arith, l.auto.out)) (le-turn s.width l.i l.left c.loop-i-test.true) ∙ l.invariant

pub returns-clause-out_after : goal.returns-clause-out_after
unfolding le
returns-clause-out_after c =
    let l = c.loop-i in
    let s = c.args in
    let e : s.width - l.i ≡ 0 = omega arith in
    sym (splice-none l.out (s.at + l.i)) ∙ ap (λ (k : ℕ). splice l.out (s.at + l.i) (le k l.left)) (sym e) ∙ l.invariant
