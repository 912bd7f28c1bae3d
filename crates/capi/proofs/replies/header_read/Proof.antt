-- Case by case on the answer; a refusal's number is that of its error.
use borrow.Author.Rules.{rules}
use Rattle.capi.proofs.replies.header_read.Statement.{statement}
use Rattle.capi.proofs.replies.header_read.Tie as tie

returns : tie.Need-returns-in-Ok
returns c = rw c.in-Ok.is

returns-2 : tie.Need-returns-in-Err
returns-2 c = search (rules, ← c.number.ensures, c.no_fields.ensures, c.in-Err.is)

pub header_read_spec : {M : Type 1} → statement M
header_read_spec =
    tie.close
    (tie.spec
    (search rules)
    (search rules)
    (search rules)
    (search rules)
    returns
    returns-2)
