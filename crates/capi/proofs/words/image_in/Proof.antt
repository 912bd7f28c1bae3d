-- The call's promise, of the two words.
use mathlib.Core.Path.{◌≡◌, ◌∙◌}
use lib.IntN.{ℤ}
use mir.Syntax.{w64}
use mir.Facts.{to_z-of_z}
use Rattle.capi.specs.Words.{at, image_at}
use borrow.Author.Rules.{rules}
use Rattle.capi.proofs.words.image_in.Statement.{statement}
use Rattle.capi.proofs.words.image_in.Tie as tie

same : (p w x y : ℤ) → x ≡ p → y ≡ w → image_at x y ≡ image_at p w
same p w x y e f = cc

returns : tie.Need-returns
returns c =
    let w = c.args.w.now in
    c.image_at.ensures ∙ same (at w 0) (at w 1) _ _ (to_z-of_z {w = w64} (search rules)) (to_z-of_z {w = w64} (search rules))

pub image_in_spec : {M : Type 1} → statement M
image_in_spec =
    tie.close (tie.spec (search rules) (search rules) (search rules) returns)
