-- The call's promise, carried into the reply; signed arguments that were handed on are those given.
use borrow.Author.Rules.{rules}
use Rattle.capi.proofs.writing.logbuffer_publication_limit.Statement.{statement}
use Rattle.capi.proofs.writing.logbuffer_publication_limit.Tie as tie

returns : tie.Need-returns
returns c =
    let f = c.publication_limit.ensures in rw (c.positioned.ensures, f, c.record_in.ensures) (search rules)

pub logbuffer_publication_limit_spec : {M : Type 1} → statement M
logbuffer_publication_limit_spec =
    tie.close (tie.spec (search rules) (search rules) (search rules) returns)
