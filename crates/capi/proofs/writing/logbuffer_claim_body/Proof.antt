-- The call's promise, carried into the reply; signed arguments that were handed on are those given.
use borrow.Author.Rules.{rules}
use Rattle.capi.proofs.writing.logbuffer_claim_body.Statement.{statement}
use Rattle.capi.proofs.writing.logbuffer_claim_body.Tie as tie

returns : tie.Need-returns
returns c =
    let f = c.locate.ensures in rw (c.located.ensures, f, c.record_in.ensures) (search rules)

pub logbuffer_claim_body_spec : {M : Type 1} → statement M
logbuffer_claim_body_spec =
    tie.close (tie.spec (search rules) (search rules) (search rules) returns)
