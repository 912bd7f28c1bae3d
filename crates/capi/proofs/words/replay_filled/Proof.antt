-- The image, then the assembler.
use mathlib.Core.Path.{◌≡◌, ap, ◌∙◌}
use mathlib.Core.List.{List}
use lib.IntN.{ℤ, pos}
use lib.ListN.{set}
use mir.Syntax.{w64}
use mir.Facts.{to_z-of_z}
use Rattle.logbuffer.specs.Assembler.{sessions_of}
use Rattle.capi.specs.Words.{assembler_to}
use Rattle.capi.proofs.Halves.{pair-by}
use borrow.Author.Rules.{rules}
use Rattle.capi.proofs.words.replay_filled.Statement.{statement}
use Rattle.capi.proofs.words.replay_filled.Tie as tie

same : (w : List ℤ) (p q x y : ℤ) → q ≡ p → x ≡ y → set (set w 0 q) 1 x ≡ set (set w 0 p) 1 y
same w p q x y e f = cc

returns : tie.Need-returns
returns c =
    let s = c.args in
    let i = s.next.image in
    c.sessions_out.ensures ∙ ap (λ (w : List ℤ). assembler_to w 2 (sessions_of s.next.assembler))
    (same s.w.now i.position _ _ _ (to_z-of_z {w = w64} (search rules)) (pair-by i.session_id (pos 0) c.pair.ensures (search rules) (search rules) (search rules)))

pub replay_filled_spec : {M : Type 1} → statement M
replay_filled_spec =
    tie.close (tie.spec (search rules) (search rules) (search rules) (search rules) returns)
