-- The position as it is, and the session as a half.
use mathlib.Core.Path.{◌≡◌}
use mathlib.Core.List.{List}
use lib.IntN.{ℤ, pos}
use lib.ListN.{set}
use Rattle.capi.proofs.Halves.{pair-by}
use borrow.Author.Rules.{rules}
use Rattle.capi.proofs.words.image_filled.Statement.{statement}
use Rattle.capi.proofs.words.image_filled.Tie as tie

same : (w : List ℤ) (p q x y : ℤ) → q ≡ p → x ≡ y → set (set w 0 q) 1 x ≡ set (set w 0 p) 1 y
same w p q x y e f = cc

returns : tie.Need-returns
returns c =
    let i = c.args.next in
    same c.args.w.now i.position _ _ _ (search rules) (pair-by i.session_id (pos 0) c.pair.ensures (search rules) (search rules) (search rules))

pub image_filled_spec : {M : Type 1} → statement M
image_filled_spec =
    tie.close (tie.spec (search rules) (search rules) (search rules) returns)
