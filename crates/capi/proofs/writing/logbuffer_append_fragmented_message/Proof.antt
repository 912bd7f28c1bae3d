-- The call's promise, carried into the reply and the words; signed arguments that were handed on are those given.
use mathlib.Core.Path.{ap, ◌∙◌}
use lib.IntN.{ℤ}
use mir.Facts.{to_z-of_z}
use Rattle.model.specs.declared.LogRecord.{LogRecord}
use Rattle.model.specs.declared.AppendReply.{AppendReply}
use Rattle.model.specs.TermAppender.{fragmented_reply, fragmented_bytes}
use Rattle.capi.specs.Words.{record_out}
use Rattle.capi.specs.Replies.{append_reply}
use Rattle.capi.proofs.Promised.{of-4, of-5}
use borrow.Author.Rules.{rules}
use Rattle.capi.proofs.writing.logbuffer_append_fragmented_message.Statement.{statement}
use Rattle.capi.proofs.writing.logbuffer_append_fragmented_message.Tie as tie

returns : tie.Need-returns
returns c =
    let s = c in
    let a = s.args in
    let f = c.append_fragmented_message-o.ensures in
    let q0 = of-4 (λ (r : LogRecord) (y : ℤ) (u : ℤ) (z : ℤ). fragmented_reply r a.log.now y a.message.now u z) f.0 c.record_in.ensures (to_z-of_z s.ranges.partition) (to_z-of_z s.ranges.payload_limit) (to_z-of_z s.ranges.term_id) in
    let q1 = of-5 (λ (r : LogRecord) (y : ℤ) (x : ℤ) (u : ℤ) (z : ℤ). fragmented_bytes r a.log.now y a.message.now x u z) f.1 c.record_in.ensures (to_z-of_z s.ranges.partition) (to_z-of_z s.ranges.reserved_value) (to_z-of_z s.ranges.payload_limit) (to_z-of_z s.ranges.term_id) in
    (c.appended.ensures ∙ ap (λ (o : AppendReply). append_reply o.answer) q0, (c.record_out.ensures ∙ ap (λ (o : AppendReply). record_out a.rec.now o.next) q0, q1))

pub logbuffer_append_fragmented_message_spec : {M : Type 1} → statement M
logbuffer_append_fragmented_message_spec =
    tie.close (tie.spec (search rules) (search rules) (search rules) (search rules) (search rules) returns)
