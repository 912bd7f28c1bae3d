-- What is answered is worked out, and the image handed back as it was.
use mathlib.Core.Path.{ap, ap₂, ◌∙◌}
use mir.Facts.{to_z-of_z}
use Rattle.model.specs.Image.{peek_of, peek_slots}
use Rattle.image.specs.Images.{state_of, peek_reply_of}
use borrow.Author.Rules.{rules}
use Rattle.image.proofs.Image.controlled_peek.Statement.{statement}
use Rattle.image.proofs.Image.controlled_peek.Tie as tie

returns : tie.Need-returns
returns c =
    let s = c in
    let a = s.args in
    let p = c.peek_frames-answer.ensures in
    let from = to_z-of_z s.ranges.start in
    let to = to_z-of_z s.ranges.limit_position in (
      ap (peek_reply_of (state_of a.self)) (p.0 ∙ ap₂ (peek_of a.rec a.log.now (state_of a.self) a.entries.now a.actions.now) from to),
      p.1 ∙ ap₂ (peek_slots a.rec a.log.now (state_of a.self) a.entries.now a.actions.now) from to,
    )

pub controlled_peek_spec : {M : Type 1} → statement M
controlled_peek_spec =
    tie.close
    (tie.spec
    (search rules)
    (search rules)
    returns)
