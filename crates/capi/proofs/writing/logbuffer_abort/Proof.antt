-- The call's promise, carried into the reply; signed arguments that were handed on are those given.
use Rattle.capi.proofs.Promised.{promised}
use borrow.Author.Rules.{rules}
use Rattle.capi.proofs.writing.logbuffer_abort.Statement.{statement}
use Rattle.capi.proofs.writing.logbuffer_abort.Tie as tie

returns : tie.Need-returns
returns c =
    let f = c.abort.ensures in rw (promised c.outcome_code.ensures (search rules), f.0, f.1, c.record_in.ensures) (search rules)

pub logbuffer_abort_spec : {M : Type 1} → statement M
logbuffer_abort_spec =
    tie.close (tie.spec (search rules) (search rules) (search rules) (search rules) returns)
