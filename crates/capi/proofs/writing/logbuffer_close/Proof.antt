-- The call's promise, carried into the reply and the words; signed arguments that were handed on are those given.
use Rattle.capi.proofs.Promised.{promised}
use borrow.Author.Rules.{rules}
use Rattle.capi.proofs.writing.logbuffer_close.Statement.{statement}
use Rattle.capi.proofs.writing.logbuffer_close.Tie as tie

returns : tie.Need-returns
returns c =
    let f = c.close-o.ensures in rw (promised c.outcome_code.ensures (search rules), c.closed_out.ensures, f, c.record_in.ensures) (search rules)

pub logbuffer_close_spec : {M : Type 1} → statement M
logbuffer_close_spec =
    tie.close (tie.spec (search rules) (search rules) (search rules) (search rules) returns)
