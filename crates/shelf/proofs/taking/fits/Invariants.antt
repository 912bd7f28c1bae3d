-- The loop keeps `Fitting` of Calls.
use Rattle.shelf.proofs.Calls.{Fitting}
use Rattle.shelf.proofs.taking.fits.Given as goal

abbrev pub invariant-loop-k : goal.invariant-loop-k
invariant-loop-k l = Fitting l.shelf l.n l.term l.k l.room
