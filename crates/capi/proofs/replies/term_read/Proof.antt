-- Case by case on the answer; a refusal's number and place are those of its error.
use borrow.Author.Rules.{rules}
use Rattle.capi.proofs.replies.term_read.Statement.{statement}
use Rattle.capi.proofs.replies.term_read.Tie as tie

returns : tie.Need-returns-in-Ok
returns c = search (rules, c.narrow.ensures, c.in-Ok.is)

returns-2 : tie.Need-returns-in-Err
returns-2 c = search (rules, ← c.number.ensures, ← c.place.ensures, c.in-Err.is)

pub term_read_spec : {M : Type 1} → statement M
term_read_spec =
    tie.close (tie.spec (search rules) (search rules) (search rules) (search rules) (search rules) (search rules) returns returns-2)
