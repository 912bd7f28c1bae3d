-- A copy of the words of its assembler.
use mathlib.Core.Path.{◌≡◌, ap, ◌∙◌}
use mathlib.Core.List.{List}
use lib.IntN.{ℤ}
use lib.ListN.{set}
use mir.Syntax.{w64}
use mir.Facts.{to_z-of_z}
use Rattle.capi.specs.Words.{at}
use borrow.Author.Rules.{rules}
use Rattle.capi.proofs.words.sessions_out.Statement.{statement}
use Rattle.capi.proofs.words.sessions_out.Tie as tie

abbrev copied : List ℤ → List ℤ → List ℤ
copied w a = set (set (set (set (set (set (set (set (set (set (set (set (set (set (set (set (set (set (set (set (set (set (set (set (set w 2 (at a 0)) 3 (at a 1)) 4 (at a 2)) 5 (at a 3)) 6 (at a 4)) 7 (at a 5)) 8 (at a 6)) 9 (at a 7)) 10 (at a 8)) 11 (at a 9)) 12 (at a 10)) 13 (at a 11)) 14 (at a 12)) 15 (at a 13)) 16 (at a 14)) 17 (at a 15)) 18 (at a 16)) 19 (at a 17)) 20 (at a 18)) 21 (at a 19)) 22 (at a 20)) 23 (at a 21)) 24 (at a 22)) 25 (at a 23)) 26 (at a 24)

same : (w a : List ℤ) (a0 a1 a2 a3 a4 a5 a6 a7 a8 a9 a10 a11 a12 a13 a14 a15 a16 a17 a18 a19 a20 a21 a22 a23 a24 : ℤ)
    → a0 ≡ at a 0 → a1 ≡ at a 1 → a2 ≡ at a 2 → a3 ≡ at a 3 → a4 ≡ at a 4
    → a5 ≡ at a 5 → a6 ≡ at a 6 → a7 ≡ at a 7 → a8 ≡ at a 8 → a9 ≡ at a 9
    → a10 ≡ at a 10 → a11 ≡ at a 11 → a12 ≡ at a 12 → a13 ≡ at a 13 → a14 ≡ at a 14
    → a15 ≡ at a 15 → a16 ≡ at a 16 → a17 ≡ at a 17 → a18 ≡ at a 18 → a19 ≡ at a 19
    → a20 ≡ at a 20 → a21 ≡ at a 21 → a22 ≡ at a 22 → a23 ≡ at a 23 → a24 ≡ at a 24
    → set (set (set (set (set (set (set (set (set (set (set (set (set (set (set (set (set (set (set (set (set (set (set (set (set w 2 a0) 3 a1) 4 a2) 5 a3) 6 a4) 7 a5) 8 a6) 9 a7) 10 a8) 11 a9) 12 a10) 13 a11) 14 a12) 15 a13) 16 a14) 17 a15) 18 a16) 19 a17) 20 a18) 21 a19) 22 a20) 23 a21) 24 a22) 25 a23) 26 a24 ≡ copied w a
same w a a0 a1 a2 a3 a4 a5 a6 a7 a8 a9 a10 a11 a12 a13 a14 a15 a16 a17 a18 a19 a20 a21 a22 a23 a24 h0 h1 h2 h3 h4 h5 h6 h7 h8 h9 h10 h11 h12 h13 h14 h15 h16 h17 h18 h19 h20 h21 h22 h23 h24 = cc

returns : tie.Need-returns
returns c =
    let s = c.args in
    let a = c.assembler_out.new.w in
    same s.w.now a _ _ _ _ _ _ _ _ _ _ _ _ _ _ _ _ _ _ _ _ _ _ _ _ _
    (to_z-of_z {w = w64} (search (rules, c.w-1.given)))
    (to_z-of_z {w = w64} (search (rules, c.w-2-1.given)))
    (to_z-of_z {w = w64} (search (rules, c.w-3-1.given)))
    (to_z-of_z {w = w64} (search (rules, c.w-4-1.given)))
    (to_z-of_z {w = w64} (search (rules, c.w-5-1.given)))
    (to_z-of_z {w = w64} (search (rules, c.w-6-1.given)))
    (to_z-of_z {w = w64} (search (rules, c.w-7-1.given)))
    (to_z-of_z {w = w64} (search (rules, c.w-8-1.given)))
    (to_z-of_z {w = w64} (search (rules, c.w-9-1.given)))
    (to_z-of_z {w = w64} (search (rules, c.w-10-1.given)))
    (to_z-of_z {w = w64} (search (rules, c.w-11-1.given)))
    (to_z-of_z {w = w64} (search (rules, c.w-12-1.given)))
    (to_z-of_z {w = w64} (search (rules, c.w-13-1.given)))
    (to_z-of_z {w = w64} (search (rules, c.w-14-1.given)))
    (to_z-of_z {w = w64} (search (rules, c.w-15-1.given)))
    (to_z-of_z {w = w64} (search (rules, c.w-16-1.given)))
    (to_z-of_z {w = w64} (search (rules, c.w-17-1.given)))
    (to_z-of_z {w = w64} (search (rules, c.w-18-1.given)))
    (to_z-of_z {w = w64} (search (rules, c.w-19-1.given)))
    (to_z-of_z {w = w64} (search (rules, c.w-20-1.given)))
    (to_z-of_z {w = w64} (search (rules, c.w-21-1.given)))
    (to_z-of_z {w = w64} (search (rules, c.w-22-1.given)))
    (to_z-of_z {w = w64} (search (rules, c.w-23-1.given)))
    (to_z-of_z {w = w64} (search (rules, c.w-24-1.given)))
    (to_z-of_z {w = w64} (search (rules, c.w-25-1.given)))
    ∙ ap (copied s.w.now) c.assembler_out.ensures

pub sessions_out_spec : {M : Type 1} → statement M
sessions_out_spec =
    tie.close
    (tie.spec
    (search rules) (search rules) (search rules) (search rules) (search rules) (search rules) (search rules) (search rules) (search rules)
    (search rules) (search rules) (search rules) (search rules) (search rules) (search rules) (search rules) (search rules) (search rules)
    (search rules) (search rules) (search rules) (search rules) (search rules) (search rules) (search rules) (search rules) (search rules)
    (search rules) (search rules) (search rules) (search rules) (search rules) (search rules) (search rules) (search rules) (search rules)
    (search rules) (search rules) (search rules) (search rules) (search rules) (search rules) (search rules) (search rules) (search rules)
    (search rules) (search rules) (search rules) (search rules) (search rules) (search rules) returns)
