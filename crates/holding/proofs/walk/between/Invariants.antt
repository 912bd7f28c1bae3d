-- The cards so far and those of the walk from here, with the run that is open here, are the whole walk's.
use Rattle.std.proofs.Common.{◌-◌, ◌≤◌}
use Rattle.model.specs.Bytes.{word}
use Rattle.tally.specs.Walk.{stream_by}
use Rattle.holding.specs.Within.{run_in, kept}
use Rattle.holding.proofs.Turning.{Turning}
use Rattle.holding.proofs.walk.between.Given as goal

abbrev pub invariant-loop-run : goal.invariant-loop-run
invariant-loop-run l =
    Turning (stream_by l.stream.bits (word l.stream.initial) l.stream.log.now) l.find l.from l.to (record { held = l.held; note = l.note }) (run_in l.run l.buffer) l.p
    × (kept l.run ≤ 270)

abbrev pub decreases-loop-run : goal.decreases-loop-run
decreases-loop-run l = l.to - l.p
