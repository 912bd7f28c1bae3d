-- What is still to be laid after each turn makes the whole.
use Rattle.std.proofs.Common.{◌≡◌, ◌+◌, ◌-◌}
use Rattle.card.specs.Bytes.{le, splice}
use Rattle.card.proofs.field.put.Given as goal

abbrev pub invariant-loop-i : goal.invariant-loop-i
invariant-loop-i l = splice l.out (l.at + l.i) (le (l.width - l.i) l.left) ≡ splice l.fn.out l.at (le l.width l.n)
