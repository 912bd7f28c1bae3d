-- The ladder's answer decides.
use Rattle.std.specs.Prelude.{Ok}
use Rattle.std.proofs.Common.{ℤ, sym, ap, ◌∙◌}
use mir.Facts.{to_z-of_z}
use Rattle.model.specs.declared.ReadVerdict.TheVariants.{Read, Closed}
use Rattle.model.specs.Image.{moved_to}
use Rattle.logbuffer.proofs.Signed.{long-by}
use Rattle.image.specs.declared.ImageReply.{ImageReply}
use Rattle.image.specs.Images.{state_of, image_of, image_reply_of}
use Rattle.image.proofs.Rungs.{answered}
use Rattle.image.proofs.Settings.{as-set}
use Rattle.image.proofs.Image.set_position.Goals as goal

pub returns-in-Err : goal.returns-in-Err
returns-in-Err c =
    let a = c.args in
    ap image_reply_of (as-set a.rec a.log.now (state_of a.self) _ c.read_active-v.ensures a.new_position _ _ (long-by a.new_position c.long.ensures.0 c.ranges.new_position) (sym c.in-Err.is ∙ c.reach.ensures))

pub returns-in-Ok-Closed : goal.returns-in-Ok-Closed
returns-in-Ok-Closed c =
    let a = c.args in
    ap image_reply_of (as-set a.rec a.log.now (state_of a.self) _ c.read_active-v.ensures a.new_position _ (Ok Closed) (long-by a.new_position c.long.ensures.0 c.ranges.new_position) (answered c.in-Ok-Closed.is c.in-Ok-Closed.field-0-is c.reach.ensures))

pub returns-in-Ok-Read : goal.returns-in-Ok-Read
returns-in-Ok-Read c =
    let a = c.args in
    let made : ℤ → ImageReply = λ (z : ℤ). record { next = image_of (moved_to (state_of a.self) z); answer = Ok tt } in
    ap made (to_z-of_z c.ranges.new_position)
    ∙ ap image_reply_of (as-set a.rec a.log.now (state_of a.self) _ c.read_active-v.ensures a.new_position _ (Ok Read) (long-by a.new_position c.long.ensures.0 c.ranges.new_position) (answered c.in-Ok-Read.is c.in-Ok-Read.field-0-is c.reach.ensures))
