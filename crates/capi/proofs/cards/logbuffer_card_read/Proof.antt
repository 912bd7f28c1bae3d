-- The call's promise, carried into the reply.
use borrow.Author.Rules.{rules}
use Rattle.capi.proofs.cards.logbuffer_card_read.Statement.{statement}
use Rattle.capi.proofs.cards.logbuffer_card_read.Tie as tie

returns : tie.Need-returns
returns c = rw (c.card_read.ensures, c.read.ensures) (search rules)

pub logbuffer_card_read_spec : {M : Type 1} → statement M
logbuffer_card_read_spec = tie.close (tie.spec (search rules) (search rules) returns)
