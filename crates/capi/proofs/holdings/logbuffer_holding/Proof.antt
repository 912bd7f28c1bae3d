-- The call's promise, carried into the reply; signed arguments that were handed on are those given.
use borrow.Author.Rules.{rules}
use Rattle.capi.proofs.holdings.logbuffer_holding.Statement.{statement}
use Rattle.capi.proofs.holdings.logbuffer_holding.Tie as tie

returns : tie.Need-returns
returns c =
    let f = c.card_that_holds.ensures in rw (c.replied.ensures, f, c.record_in.ensures) (search rules)

pub logbuffer_holding_spec : {M : Type 1} → statement M
logbuffer_holding_spec =
    tie.close (tie.spec (search rules) (search rules) (search rules) returns)
