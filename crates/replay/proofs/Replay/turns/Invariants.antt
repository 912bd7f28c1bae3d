-- The turns left and the replay as it stands give what was asked for.
use Rattle.std.proofs.Common.{◌≡◌, ◌-◌}
use Rattle.model.specs.Replay.{next_from}
use Rattle.replay.specs.Replays.{state_of}
use Rattle.replay.proofs.Replay.turns.Given as goal

abbrev pub invariant-loop : goal.invariant-loop
invariant-loop l =
    next_from (l.most - l.counter) l.rec l.log (state_of l.replay l.buffer) ≡ next_from l.most l.rec l.log (state_of l.fn.self l.fn.buffer)
