-- The loop keeps `Taking` of Calls.
use Rattle.shelf.proofs.Calls.{Taking}
use Rattle.shelf.proofs.taking.take_down.Given as goal

abbrev pub invariant-loop-k : goal.invariant-loop-k
invariant-loop-k l = Taking l.shelf l.n l.fn.out l.out l.k l.at l.from
