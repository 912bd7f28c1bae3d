-- The loop keeps `Scattering` of Scatters.
use Rattle.shelf.proofs.Scatters.{Scattering}
use Rattle.shelf.proofs.laying.lay.Given as goal

abbrev pub invariant-loop-k : goal.invariant-loop-k
invariant-loop-k l = Scattering l.term l.n l.initial.out l.out l.at l.k l.to
