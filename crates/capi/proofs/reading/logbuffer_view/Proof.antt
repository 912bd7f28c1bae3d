-- The call's promise, carried into the reply; signed arguments that were handed on are those given.
use borrow.Author.Rules.{rules}
use Rattle.capi.proofs.reading.logbuffer_view.Statement.{statement}
use Rattle.capi.proofs.reading.logbuffer_view.Tie as tie

returns : tie.Need-returns
returns c =
    let f = c.view_span.ensures in rw (c.located.ensures, f, c.record_in.ensures) (search rules)

pub logbuffer_view_spec : {M : Type 1} → statement M
logbuffer_view_spec =
    tie.close (tie.spec (search rules) (search rules) (search rules) returns)
