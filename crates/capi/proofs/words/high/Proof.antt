-- The call's promise.
use borrow.Author.Rules.{rules}
use Rattle.capi.proofs.Promised.{promised}
use Rattle.capi.proofs.words.high.Statement.{statement}
use Rattle.capi.proofs.words.high.Tie as tie

returns : tie.Need-returns
returns c = search (promised c.term_id.ensures, rules)

pub high_spec : {M : Type 1} → statement M
high_spec = tie.close (tie.spec (search rules) returns)
