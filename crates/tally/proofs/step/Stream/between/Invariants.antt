-- The sums so far and those of the walk from here are the whole walk's, and the spot is the position's.
use Rattle.std.proofs.Common.{◌≡◌, ◌-◌, ◌^◌, min}
use Rattle.model.specs.Bytes.{word}
use Rattle.tally.specs.Walk.{stream_by}
use Rattle.tally.specs.Within.{spot_of}
use Rattle.tally.proofs.Turning.{Turning}
use Rattle.tally.proofs.step.Stream.between.Given as goal

abbrev pub invariant-loop-at : goal.invariant-loop-at
invariant-loop-at l =
    Turning (stream_by l.self.bits (word l.self.initial) l.self.log.now) l.from l.to l.sums l.p × (l.at ≡ spot_of (2 ^ min l.self.bits 30) l.p)

abbrev pub decreases-loop-at : goal.decreases-loop-at
decreases-loop-at l = l.to - l.p
