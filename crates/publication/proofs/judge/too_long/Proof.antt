-- The tests pick the case.
use Rattle.model.proofs.OfferLaws.{long-no, long-small, long-large}
use borrow.Author.Rules.{rules}
use Rattle.publication.proofs.judge.too_long.Statement.{statement}
use Rattle.publication.proofs.judge.too_long.Tie as tie

returns : tie.Need-returns-then-m-mtu
returns c = long-no c.args.v c.args.m c.if-m-mtu.true

returns-2 : tie.Need-returns-then-term-le-MAX_MESSAGE_LENGTH
returns-2 c = long-small c.args.v c.args.m c.if-m-mtu.false c.if-term-le-MAX_MESSAGE_LENGTH.true

returns-3 : tie.Need-returns
returns-3 c = long-large c.args.v c.args.m c.if-m-mtu.false c.if-term-le-MAX_MESSAGE_LENGTH.false

pub too_long_spec : {M : Type 1} → statement M
too_long_spec = tie.close (tie.spec (search rules) returns returns-2 returns-3)
