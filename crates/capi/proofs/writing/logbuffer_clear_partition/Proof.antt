-- The call's promise, carried into the reply and the words; signed arguments that were handed on are those given.
use mathlib.Core.Path.{ap, ◌∙◌}
use lib.IntN.{ℤ}
use mir.Facts.{to_z-of_z}
use Rattle.model.specs.declared.LogRecord.{LogRecord}
use Rattle.model.specs.declared.RecordReply.{RecordReply}
use Rattle.model.specs.Publication.{clear_of, clear_bytes}
use Rattle.capi.specs.Words.{marks_out}
use Rattle.capi.specs.Replies.{outcome_number}
use Rattle.capi.proofs.Promised.{promised, of-2}
use borrow.Author.Rules.{rules}
use Rattle.capi.proofs.writing.logbuffer_clear_partition.Statement.{statement}
use Rattle.capi.proofs.writing.logbuffer_clear_partition.Tie as tie

returns : tie.Need-returns
returns c =
    let s = c in
    let a = s.args in
    let f = c.clear_partition-o.ensures in
    let k = to_z-of_z s.ranges.partition in
    let r = c.record_in.ensures in
    let q = of-2 (λ (x : LogRecord) (y : ℤ). clear_of x a.log.now y) f.0 r k in (
      promised (c.outcome_code.ensures ∙ ap (λ (o : RecordReply). outcome_number o.answer) q) (search rules),
      (
        c.marks_out.ensures ∙ ap (λ (o : RecordReply). marks_out a.rec.now o.next) q,
        of-2 (λ (x : LogRecord) (y : ℤ). clear_bytes x a.log.now y) f.1 r k,
      ),
    )

pub logbuffer_clear_partition_spec : {M : Type 1} → statement M
logbuffer_clear_partition_spec =
    tie.close (tie.spec (search rules) (search rules) (search rules) (search rules) (search rules) returns)
