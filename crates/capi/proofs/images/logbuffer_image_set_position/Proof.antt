-- The call's promise, carried into the reply and the words; signed arguments that were handed on are those given.
use mathlib.Core.Path.{ap, ◌∙◌}
use lib.IntN.{ℤ}
use mir.Facts.{to_z-of_z}
use Rattle.model.specs.declared.LogRecord.{LogRecord}
use Rattle.model.specs.Image.{set_position_of}
use Rattle.image.specs.declared.Image.{Image}
use Rattle.image.specs.declared.ImageReply.{ImageReply}
use Rattle.image.specs.Images.{state_of, image_reply_of}
use Rattle.capi.specs.Words.{image_out}
use Rattle.capi.specs.Replies.{outcome_number}
use Rattle.capi.proofs.Promised.{promised, of-3}
use borrow.Author.Rules.{rules}
use Rattle.capi.proofs.images.logbuffer_image_set_position.Statement.{statement}
use Rattle.capi.proofs.images.logbuffer_image_set_position.Tie as tie

returns : tie.Need-returns
returns c =
    let s = c in
    let q = of-3 (λ (r : LogRecord) (i : Image) (p : ℤ). image_reply_of (set_position_of r s.args.log.now (state_of i) p)) c.set_position-o.ensures c.record_in.ensures c.image_in-i.ensures (to_z-of_z s.ranges.new_position) in
    (promised (c.outcome_code.ensures ∙ ap (λ (o : ImageReply). outcome_number o.answer) q) (search rules), c.image_out.ensures ∙ ap (λ (o : ImageReply). image_out s.args.image.now (state_of o.next)) q)

pub logbuffer_image_set_position_spec : {M : Type 1} → statement M
logbuffer_image_set_position_spec =
    tie.close (tie.spec (search rules) (search rules) (search rules) (search rules) (search rules) returns)
