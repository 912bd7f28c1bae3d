-- The call's promise, carried into the reply and the words; signed arguments that were handed on are those given.
use mathlib.Core.Path.{ap, ◌∙◌}
use lib.IntN.{ℤ}
use mir.Facts.{to_z-of_z}
use Rattle.model.specs.declared.LogRecord.{LogRecord}
use Rattle.model.specs.declared.AppendClaimReply.{AppendClaimReply}
use Rattle.model.specs.TermAppender.{claim_append_reply, claim_append_bytes}
use Rattle.capi.specs.Words.{record_out}
use Rattle.capi.specs.Replies.{append_claim_reply}
use Rattle.capi.proofs.Promised.{of-4}
use borrow.Author.Rules.{rules}
use Rattle.capi.proofs.writing.logbuffer_append_claim.Statement.{statement}
use Rattle.capi.proofs.writing.logbuffer_append_claim.Tie as tie

returns : tie.Need-returns
returns c =
    let s = c in
    let a = s.args in
    let f = c.claim-o.ensures in
    let q0 = of-4 (λ (r : LogRecord) (y : ℤ) (x : ℤ) (z : ℤ). claim_append_reply r a.log.now y x z) f.0 c.record_in.ensures (to_z-of_z s.ranges.partition) (to_z-of_z s.ranges.length) (to_z-of_z s.ranges.term_id) in
    let q1 = of-4 (λ (r : LogRecord) (y : ℤ) (x : ℤ) (z : ℤ). claim_append_bytes r a.log.now y x z) f.1 c.record_in.ensures (to_z-of_z s.ranges.partition) (to_z-of_z s.ranges.length) (to_z-of_z s.ranges.term_id) in
    (c.appended_claim.ensures ∙ ap (λ (o : AppendClaimReply). append_claim_reply o.answer) q0, (c.record_out.ensures ∙ ap (λ (o : AppendClaimReply). record_out a.rec.now o.next) q0, q1))

pub logbuffer_append_claim_spec : {M : Type 1} → statement M
logbuffer_append_claim_spec =
    tie.close (tie.spec (search rules) (search rules) (search rules) (search rules) (search rules) returns)
