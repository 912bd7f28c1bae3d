-- Case by case on the answer; a refusal's number and place are those of its error.
use borrow.Author.Rules.{rules}
use Rattle.capi.proofs.replies.block_polled.Statement.{statement}
use Rattle.capi.proofs.replies.block_polled.Tie as tie

returns : tie.Need-returns-in-Ok
returns c = search (rules, c.in-Ok.is)

returns-2 : tie.Need-returns-in-Err
returns-2 c = search (rules, ← c.number.ensures, ← c.place.ensures, c.in-Err.is)

pub block_polled_spec : {M : Type 1} → statement M
block_polled_spec =
    tie.close (tie.spec (search rules) (search rules) (search rules) (search rules) (search rules) returns returns-2)
