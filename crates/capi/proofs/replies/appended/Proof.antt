-- Case by case on the answer; a refusal's number is that of its error.
use borrow.Author.Rules.{rules}
use Rattle.capi.proofs.replies.appended.Statement.{statement}
use Rattle.capi.proofs.replies.appended.Tie as tie

returns : tie.Need-returns-in-Offset
returns c = rw c.in-Offset.is

returns-2 : tie.Need-returns-in-Tripped
returns-2 c = rw c.in-Tripped.is

returns-3 : tie.Need-returns-in-Refused
returns-3 c = search (rules, ← c.number.ensures, c.in-Refused.is)

pub appended_spec : {M : Type 1} → statement M
appended_spec =
    tie.close
    (tie.spec
    (search rules)
    (search rules)
    (search rules)
    (search rules)
    returns
    returns-2
    returns-3)
