-- No id passed is the session's.
use Rattle.std.proofs.Common.{take}
use Rattle.logbuffer.proofs.Sessions.{Left}
use Rattle.logbuffer.proofs.fragment_assembler.place_in.Given as goal

abbrev pub invariant-loop-i : goal.invariant-loop-i
invariant-loop-i l = Left (take l.n l.ids) l.session l.i
