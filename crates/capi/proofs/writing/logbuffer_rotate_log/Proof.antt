-- The call's promise, carried into the reply and the words; signed arguments that were handed on are those given.
use mathlib.Core.Path.{ap, ◌∙◌}
use mir.Facts.{to_z-of_z}
use Rattle.model.specs.declared.RecordReply.{RecordReply}
use Rattle.model.specs.LogBufferDescriptor.{rotate_log_of}
use Rattle.capi.specs.Words.{record_out}
use Rattle.capi.specs.Replies.{outcome_number}
use Rattle.capi.proofs.Promised.{promised, of-3}
use borrow.Author.Rules.{rules}
use Rattle.capi.proofs.writing.logbuffer_rotate_log.Statement.{statement}
use Rattle.capi.proofs.writing.logbuffer_rotate_log.Tie as tie

returns : tie.Need-returns
returns c =
    let s = c in
    let q = of-3 rotate_log_of c.rotate_log-o.ensures c.record_in.ensures (to_z-of_z s.ranges.count) (to_z-of_z s.ranges.term_id) in
    (promised (c.outcome_code.ensures ∙ ap (λ (o : RecordReply). outcome_number o.answer) q) (search rules), c.record_out.ensures ∙ ap (λ (o : RecordReply). record_out s.args.rec.now o.next) q)

pub logbuffer_rotate_log_spec : {M : Type 1} → statement M
logbuffer_rotate_log_spec =
    tie.close (tie.spec (search rules) (search rules) (search rules) (search rules) returns)
