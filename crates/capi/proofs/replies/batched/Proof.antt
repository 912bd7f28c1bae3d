-- Case by case on the answer; a refusal's number and place are those of its error.
use borrow.Author.Rules.{rules}
use Rattle.capi.proofs.replies.batched.Statement.{statement}
use Rattle.capi.proofs.replies.batched.Tie as tie

returns : tie.Need-returns-in-Ok
returns c = rw c.in-Ok.is

returns-2 : tie.Need-returns-in-Err
returns-2 c = search (rules, ← c.number.ensures, ← c.place.ensures, c.in-Err.is)

pub batched_spec : {M : Type 1} → statement M
batched_spec =
    tie.close (tie.spec (search rules) (search rules) (search rules) (search rules) (search rules) returns returns-2)
