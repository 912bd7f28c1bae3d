-- The call's promise, carried into the reply.
use borrow.Author.Rules.{rules}
use Rattle.capi.proofs.cards.logbuffer_card_write.Statement.{statement}
use Rattle.capi.proofs.cards.logbuffer_card_write.Tie as tie

returns : tie.Need-returns
returns c =
    let f = c.write.ensures in rw (c.card_written.ensures, f.0, f.1) (search rules)

pub logbuffer_card_write_spec : {M : Type 1} → statement M
logbuffer_card_write_spec =
    tie.close (tie.spec (search rules) (search rules) (search rules) returns)
