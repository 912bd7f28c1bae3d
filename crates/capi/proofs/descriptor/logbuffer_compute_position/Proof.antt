-- The call's promise, carried into the reply; signed arguments that were handed on are those given.
use borrow.Author.Rules.{rules}
use Rattle.capi.proofs.descriptor.logbuffer_compute_position.Statement.{statement}
use Rattle.capi.proofs.descriptor.logbuffer_compute_position.Tie as tie

returns : tie.Need-returns
returns c = rw (c.positioned.ensures, c.compute_position.ensures) (search rules)

pub logbuffer_compute_position_spec : {M : Type 1} → statement M
logbuffer_compute_position_spec =
    tie.close (tie.spec (search rules) (search rules) returns)
