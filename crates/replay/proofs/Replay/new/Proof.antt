-- Both parts are made fresh.
use mathlib.Core.Path.{ap, ap₂, ◌∙◌}
use mir.Facts.{to_z-of_z}
use Rattle.model.specs.Image.{new_image}
use Rattle.image.specs.Images.{state_of as image_state}
use borrow.Author.Rules.{rules}
use Rattle.replay.proofs.Replay.new.Statement.{statement}
use Rattle.replay.proofs.Replay.new.Tie as tie

returns : tie.Need-returns
returns c =
    (ap image_state c.new.ensures ∙ ap₂ new_image (to_z-of_z c.ranges.position) (to_z-of_z c.ranges.session_id), c.new-2.ensures)

pub new_spec : {M : Type 1} → statement M
new_spec = tie.close (tie.spec (search rules) (search rules) returns)
