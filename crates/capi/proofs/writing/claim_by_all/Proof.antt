-- The call's promise, carried into the reply and the words; signed arguments that were handed on are those given.
use mathlib.Core.Path.{ap, ◌∙◌}
use lib.IntN.{ℤ}
use mir.Facts.{to_z-of_z}
use Rattle.model.specs.declared.LogRecord.{LogRecord}
use Rattle.model.specs.declared.ClaimReply.{ClaimReply}
use Rattle.model.specs.Publication.{claim_of, claim_bytes}
use Rattle.capi.specs.Words.{record_out}
use Rattle.capi.specs.Replies.{claim_reply}
use Rattle.capi.proofs.Promised.{of-2}
use borrow.Author.Rules.{rules}
use Rattle.capi.proofs.writing.claim_by_all.Statement.{statement}
use Rattle.capi.proofs.writing.claim_by_all.Tie as tie

returns : tie.Need-returns
returns c =
    let s = c in
    let a = s.args in
    let f = c.try_claim-o.ensures in
    let q0 = of-2 (λ (r : LogRecord) (y : ℤ). claim_of r a.log.now y) f.0 c.record_in.ensures (to_z-of_z s.ranges.length) in
    let q1 = of-2 (λ (r : LogRecord) (y : ℤ). claim_bytes r a.log.now y) f.1 c.record_in.ensures (to_z-of_z s.ranges.length) in
    (c.claimed.ensures ∙ ap (λ (o : ClaimReply). claim_reply o.answer o.rule) q0, (c.record_out.ensures ∙ ap (λ (o : ClaimReply). record_out a.rec.now o.next) q0, q1))

pub claim_by_all_spec : {M : Type 1} → statement M
claim_by_all_spec =
    tie.close (tie.spec (search rules) (search rules) (search rules) (search rules) (search rules) returns)
