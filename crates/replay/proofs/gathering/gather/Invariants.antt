-- The turns left and the sessions with the one at hand lead where was asked; the place of the session at hand is known.
use Rattle.std.proofs.Common.{◌≡◌, ◌-◌}
use Rattle.logbuffer.specs.Assembler.{sessions_as}
use Rattle.replay.specs.Gather.{Knows, at_hand, gather_from}
use Rattle.replay.proofs.gathering.gather.Given as goal

abbrev pub invariant-loop-taken : goal.invariant-loop-taken
invariant-loop-taken l = record {
  knows : Knows l.entered l.ids l.current;
  leads : gather_from (l.most - l.taken) l.log l.term l.stop l.p (at_hand l.entered l.ids l.held l.current) l.buffer ≡ gather_from l.most l.log l.term l.stop l.position (sessions_as l.count l.fn.ids l.fn.held) l.fn.buffer;
}
