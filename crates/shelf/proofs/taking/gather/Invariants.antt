-- After b turns b bytes of the header are laid.
use Rattle.shelf.proofs.Walks.{Gathering}
use Rattle.shelf.proofs.taking.gather.Given as goal

abbrev pub invariant-loop-b : goal.invariant-loop-b
invariant-loop-b l = Gathering l.shelf l.n l.k l.fn.out l.to l.out l.b
