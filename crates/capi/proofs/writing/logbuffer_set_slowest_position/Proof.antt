-- The call's promise, carried into the reply and the words; signed arguments that were handed on are those given.
use mathlib.Core.Path.{ap, ◌∙◌}
use mir.Facts.{to_z-of_z}
use Rattle.model.specs.declared.RecordReply.{RecordReply}
use Rattle.model.specs.Publication.{raise_of}
use Rattle.capi.specs.Words.{slowest_out}
use Rattle.capi.specs.Replies.{outcome_number}
use Rattle.capi.proofs.Promised.{promised, of-2}
use borrow.Author.Rules.{rules}
use Rattle.capi.proofs.writing.logbuffer_set_slowest_position.Statement.{statement}
use Rattle.capi.proofs.writing.logbuffer_set_slowest_position.Tie as tie

returns : tie.Need-returns
returns c =
    let s = c in
    let q = of-2 raise_of c.set_slowest_position-o.ensures c.record_in.ensures (to_z-of_z s.ranges.position) in
    (promised (c.outcome_code.ensures ∙ ap (λ (o : RecordReply). outcome_number o.answer) q) (search rules), c.slowest_out.ensures ∙ ap (λ (o : RecordReply). slowest_out s.args.rec.now o.next) q)

pub logbuffer_set_slowest_position_spec : {M : Type 1} → statement M
logbuffer_set_slowest_position_spec =
    tie.close (tie.spec (search rules) (search rules) (search rules) (search rules) returns)
