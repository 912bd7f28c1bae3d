-- The call's promise, carried into the reply; signed arguments that were handed on are those given.
use borrow.Author.Rules.{rules}
use Rattle.capi.proofs.writing.logbuffer_position.Statement.{statement}
use Rattle.capi.proofs.writing.logbuffer_position.Tie as tie

returns : tie.Need-returns
returns c =
    let f = c.position.ensures in rw (c.positioned.ensures, f, c.record_in.ensures) (search rules)

pub logbuffer_position_spec : {M : Type 1} → statement M
logbuffer_position_spec =
    tie.close (tie.spec (search rules) (search rules) (search rules) returns)
