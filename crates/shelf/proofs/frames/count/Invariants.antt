-- The loop keeps `Counting` of Walks.
use Rattle.std.proofs.Common.{◌-◌, length}
use Rattle.shelf.proofs.Walks.{Counting}
use Rattle.shelf.proofs.frames.count.Given as goal

abbrev pub invariant-loop-z : goal.invariant-loop-z
invariant-loop-z l = Counting l.term l.at l.bodies

abbrev pub decreases-loop-z : goal.decreases-loop-z
decreases-loop-z l = length l.term - l.at
