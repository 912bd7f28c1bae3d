-- The call's promise, carried into the reply and the words; signed arguments that were handed on are those given.
use mathlib.Core.Path.{ap, ◌∙◌}
use lib.IntN.{ℤ}
use mir.Facts.{to_z-of_z}
use Rattle.model.specs.Image.{new_image}
use Rattle.image.specs.declared.Image.{Image}
use Rattle.image.specs.Images.{state_of, image_of}
use Rattle.capi.specs.Words.{image_filled}
use Rattle.capi.proofs.Promised.{of-2}
use borrow.Author.Rules.{rules}
use Rattle.capi.proofs.images.logbuffer_image_new.Statement.{statement}
use Rattle.capi.proofs.images.logbuffer_image_new.Tie as tie

returns : tie.Need-returns
returns c =
    let s = c in
    let a = s.args in
    let f = c.new.ensures in
    let q0 = of-2 (λ (x : ℤ) (y : ℤ). image_of (new_image x y)) (f) (to_z-of_z s.ranges.position) (to_z-of_z s.ranges.session_id) in
    c.image_filled.ensures ∙ ap (λ (i : Image). image_filled a.image.now (state_of i)) q0

pub logbuffer_image_new_spec : {M : Type 1} → statement M
logbuffer_image_new_spec =
    tie.close (tie.spec (search rules) (search rules) returns)
