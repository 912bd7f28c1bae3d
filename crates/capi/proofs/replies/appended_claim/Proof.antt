-- Case by case on the answer; a refusal's number is that of its error.
use borrow.Author.Rules.{rules}
use Rattle.capi.proofs.replies.appended_claim.Statement.{statement}
use Rattle.capi.proofs.replies.appended_claim.Tie as tie

returns : tie.Need-returns-in-Claimed
returns c = search (rules, c.claim_words.ensures, c.in-Claimed.is)

returns-2 : tie.Need-returns-in-Tripped
returns-2 c = rw c.in-Tripped.is

returns-3 : tie.Need-returns-in-Refused
returns-3 c = search (rules, ← c.number.ensures, c.in-Refused.is)

pub appended_claim_spec : {M : Type 1} → statement M
appended_claim_spec =
    tie.close (tie.spec (search rules) (search rules) (search rules) (search rules) (search rules) returns returns-2 returns-3)
