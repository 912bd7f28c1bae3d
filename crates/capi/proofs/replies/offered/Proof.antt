-- Case by case on the answer; a refusal's number is that of its error.
use borrow.Author.Rules.{rules}
use Rattle.capi.proofs.replies.offered.Statement.{statement}
use Rattle.capi.proofs.replies.offered.Tie as tie

returns : tie.Need-returns-in-Ok
returns c = search (rules, c.place-place.ensures, c.in-Ok.is)

returns-2 : tie.Need-returns-in-Err
returns-2 c = search (rules, c.place-place.ensures, ← c.number.ensures, c.in-Err.is)

pub offered_spec : {M : Type 1} → statement M
offered_spec =
    tie.close (tie.spec (search rules) (search rules) (search rules) (search rules) returns returns-2)
