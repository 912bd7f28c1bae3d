-- After b turns b bytes of the header are laid.
use Rattle.shelf.specs.Scatter.{Scattered}
use Rattle.shelf.proofs.laying.scatter.Given as goal

abbrev pub invariant-loop-b : goal.invariant-loop-b
invariant-loop-b l = Scattered l.term l.at l.n l.k l.b l.fn.out l.out
