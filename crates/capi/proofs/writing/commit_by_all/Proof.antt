-- The call's promise, carried into the reply; the claim is the one whose words were given.
use mathlib.Core.Path.{ap, ap₂, ◌∙◌}
use lib.IntN.{ℤ}
use mir.Facts.{to_z-of_z}
use Rattle.model.specs.declared.Claim.{Claim}
use Rattle.model.specs.declared.LogRecord.{LogRecord}
use Rattle.model.specs.BufferClaim.{commit_of, commit_bytes}
use Rattle.capi.specs.Words.{claim_in}
use Rattle.capi.specs.Replies.{outcome_number}
use Rattle.capi.proofs.Promised.{promised, of-1, of-2}
use borrow.Author.Rules.{rules}
use Rattle.capi.proofs.writing.commit_by_all.Statement.{statement}
use Rattle.capi.proofs.writing.commit_by_all.Tie as tie

returns : tie.Need-returns
returns c =
    let s = c in
    let log = s.args.log.now in
    let f = c.commit.ensures in
    let r = c.record_in.ensures in
    let k = c.claim_in-claim.ensures ∙ ap₂ claim_in (to_z-of_z s.ranges.first) (to_z-of_z s.ranges.second) in
    (promised (c.outcome_code.ensures ∙ of-2 (λ (x : LogRecord) (y : Claim). outcome_number (commit_of x log y)) (ap outcome_number f.0) r k) (search rules), of-2 (λ (x : LogRecord) (y : Claim). commit_bytes x log y) f.1 r k)

pub commit_by_all_spec : {M : Type 1} → statement M
commit_by_all_spec =
    tie.close (tie.spec (search rules) (search rules) (search rules) (search rules) (search rules) returns)
