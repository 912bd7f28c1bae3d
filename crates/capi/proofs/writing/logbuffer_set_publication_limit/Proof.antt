-- The call's promise, carried into the reply and the words; signed arguments that were handed on are those given.
use Rattle.capi.proofs.Promised.{promised}
use borrow.Author.Rules.{rules}
use Rattle.capi.proofs.writing.logbuffer_set_publication_limit.Statement.{statement}
use Rattle.capi.proofs.writing.logbuffer_set_publication_limit.Tie as tie

returns : tie.Need-returns
returns c =
    let f = c.set_publication_limit-o.ensures in rw (promised c.outcome_code.ensures (search rules), c.limit_out.ensures, f, c.record_in.ensures) (search rules)

pub logbuffer_set_publication_limit_spec : {M : Type 1} → statement M
logbuffer_set_publication_limit_spec =
    tie.close (tie.spec (search rules) (search rules) (search rules) (search rules) returns)
