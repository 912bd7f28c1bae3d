-- The image, and the assembler by a copy of its words.
use mathlib.Core.Path.{◌≡◌, ap, ◌∙◌}
use mathlib.Core.List.{List, [], ◌∷◌}
use lib.IntN.{ℤ}
use mir.Syntax.{w64}
use mir.Facts.{to_z-of_z}
use Rattle.logbuffer.specs.declared.fragment_assembler.FragmentAssembler.{FragmentAssembler}
use Rattle.image.specs.declared.Image.{Image}
use Rattle.replay.specs.declared.Replay.{Replay}
use Rattle.capi.specs.Words.{at, image_at, image_in, assembler_from, assembler_in, replay_in}
use borrow.Author.Rules.{rules}
use Rattle.capi.proofs.words.replay_in.Statement.{statement}
use Rattle.capi.proofs.words.replay_in.Tie as tie

same-words : (w : List ℤ) (a0 a1 a2 a3 a4 a5 a6 a7 a8 a9 a10 a11 a12 a13 a14 a15 a16 a17 a18 a19 a20 a21 a22 a23 a24 : ℤ)
    → a0 ≡ at w 2 → a1 ≡ at w 3 → a2 ≡ at w 4 → a3 ≡ at w 5 → a4 ≡ at w 6
    → a5 ≡ at w 7 → a6 ≡ at w 8 → a7 ≡ at w 9 → a8 ≡ at w 10 → a9 ≡ at w 11
    → a10 ≡ at w 12 → a11 ≡ at w 13 → a12 ≡ at w 14 → a13 ≡ at w 15 → a14 ≡ at w 16
    → a15 ≡ at w 17 → a16 ≡ at w 18 → a17 ≡ at w 19 → a18 ≡ at w 20 → a19 ≡ at w 21
    → a20 ≡ at w 22 → a21 ≡ at w 23 → a22 ≡ at w 24 → a23 ≡ at w 25 → a24 ≡ at w 26
    → ◌≡◌ {A = List ℤ} (a0 ∷ a1 ∷ a2 ∷ a3 ∷ a4 ∷ a5 ∷ a6 ∷ a7 ∷ a8 ∷ a9 ∷ a10 ∷ a11 ∷ a12 ∷ a13 ∷ a14 ∷ a15 ∷ a16 ∷ a17 ∷ a18 ∷ a19 ∷ a20 ∷ a21 ∷ a22 ∷ a23 ∷ a24 ∷ []) (at w 2 ∷ at w 3 ∷ at w 4 ∷ at w 5 ∷ at w 6 ∷ at w 7 ∷ at w 8 ∷ at w 9 ∷ at w 10 ∷ at w 11 ∷ at w 12 ∷ at w 13 ∷ at w 14 ∷ at w 15 ∷ at w 16 ∷ at w 17 ∷ at w 18 ∷ at w 19 ∷ at w 20 ∷ at w 21 ∷ at w 22 ∷ at w 23 ∷ at w 24 ∷ at w 25 ∷ at w 26 ∷ [])
same-words w a0 a1 a2 a3 a4 a5 a6 a7 a8 a9 a10 a11 a12 a13 a14 a15 a16 a17 a18 a19 a20 a21 a22 a23 a24 h0 h1 h2 h3 h4 h5 h6 h7 h8 h9 h10 h11 h12 h13 h14 h15 h16 h17 h18 h19 h20 h21 h22 h23 h24 = cc

same-image : (p w x y : ℤ) → x ≡ p → y ≡ w → image_at x y ≡ image_at p w
same-image p w x y e f = cc

same : (w : List ℤ) (i : Image) (a : FragmentAssembler) → i ≡ image_in w → a ≡ assembler_from w 2 → ◌≡◌ {A = Replay} (record { image = i; assembler = a }) (replay_in w)
same w i a e f = cc

returns : tie.Need-returns
returns c =
    let w = c.args.w.now in
    same w _ _ (c.image_at.ensures ∙ same-image (at w 0) (at w 1) _ _ (to_z-of_z {w = w64} (search (rules, c.image_at-arg-1.given))) (to_z-of_z {w = w64} (search (rules, c.image_at-arg-2-1.given))))
    (c.assembler_in.ensures ∙ ap assembler_in (same-words w _ _ _ _ _ _ _ _ _ _ _ _ _ _ _ _ _ _ _ _ _ _ _ _ _
    (to_z-of_z {w = w64} (search (rules, c.assembler-1.given)))
    (to_z-of_z {w = w64} (search (rules, c.assembler-2-1.given)))
    (to_z-of_z {w = w64} (search (rules, c.assembler-3-1.given)))
    (to_z-of_z {w = w64} (search (rules, c.assembler-4-1.given)))
    (to_z-of_z {w = w64} (search (rules, c.assembler-5-1.given)))
    (to_z-of_z {w = w64} (search (rules, c.assembler-6-1.given)))
    (to_z-of_z {w = w64} (search (rules, c.assembler-7-1.given)))
    (to_z-of_z {w = w64} (search (rules, c.assembler-8-1.given)))
    (to_z-of_z {w = w64} (search (rules, c.assembler-9-1.given)))
    (to_z-of_z {w = w64} (search (rules, c.assembler-10-1.given)))
    (to_z-of_z {w = w64} (search (rules, c.assembler-11-1.given)))
    (to_z-of_z {w = w64} (search (rules, c.assembler-12-1.given)))
    (to_z-of_z {w = w64} (search (rules, c.assembler-13-1.given)))
    (to_z-of_z {w = w64} (search (rules, c.assembler-14-1.given)))
    (to_z-of_z {w = w64} (search (rules, c.assembler-15-1.given)))
    (to_z-of_z {w = w64} (search (rules, c.assembler-16-1.given)))
    (to_z-of_z {w = w64} (search (rules, c.assembler-17-1.given)))
    (to_z-of_z {w = w64} (search (rules, c.assembler-18-1.given)))
    (to_z-of_z {w = w64} (search (rules, c.assembler-19-1.given)))
    (to_z-of_z {w = w64} (search (rules, c.assembler-20-1.given)))
    (to_z-of_z {w = w64} (search (rules, c.assembler-21-1.given)))
    (to_z-of_z {w = w64} (search (rules, c.assembler-22-1.given)))
    (to_z-of_z {w = w64} (search (rules, c.assembler-23-1.given)))
    (to_z-of_z {w = w64} (search (rules, c.assembler-24-1.given)))
    (to_z-of_z {w = w64} (search (rules, c.assembler-25-1.given)))))

pub replay_in_spec : {M : Type 1} → statement M
replay_in_spec =
    tie.close
    (tie.spec
    (search rules) (search rules) (search rules) (search rules) (search rules) (search rules) (search rules) (search rules) (search rules)
    (search rules) (search rules) (search rules) (search rules) (search rules) (search rules) (search rules) (search rules) (search rules)
    (search rules) (search rules) (search rules) (search rules) (search rules) (search rules) (search rules) (search rules) (search rules)
    (search rules) (search rules) returns)
