-- Case by case on the answer; a refusal's number is that of its error.
use borrow.Author.Rules.{rules}
use Rattle.capi.proofs.sections.answer_code.Statement.{statement}
use Rattle.capi.proofs.sections.answer_code.Tie as tie

returns : tie.Need-returns-in-Ok
returns c = rw c.in-Ok.is

returns-2 : tie.Need-returns-in-Err
returns-2 c = search (rules, ← c.error_number.ensures, c.in-Err.is)

pub answer_code_spec : {M : Type 1} → statement M
answer_code_spec =
    tie.close (tie.spec (search rules) (search rules) (search rules) returns returns-2)
