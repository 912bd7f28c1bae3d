-- Half by half.
use mathlib.Core.Path.{◌≡◌}
use mathlib.Core.List.{List, [], ◌∷◌}
use lib.IntN.{ℤ}
use Rattle.capi.specs.Words.{at, low_of, high_of, ids_from}
use Rattle.capi.proofs.Halves.{low_by, high-by}
use borrow.Author.Rules.{rules}
use Rattle.capi.proofs.words.ids_in.Statement.{statement}
use Rattle.capi.proofs.words.ids_in.Tie as tie

same : (w : List ℤ) (a1 b1 a2 b2 a3 b3 a4 b4 a5 b5 a6 b6 a7 b7 a8 b8 : ℤ)
    → a1 ≡ low_of (at w 1) → b1 ≡ high_of (at w 1)
    → a2 ≡ low_of (at w 2) → b2 ≡ high_of (at w 2)
    → a3 ≡ low_of (at w 3) → b3 ≡ high_of (at w 3)
    → a4 ≡ low_of (at w 4) → b4 ≡ high_of (at w 4)
    → a5 ≡ low_of (at w 5) → b5 ≡ high_of (at w 5)
    → a6 ≡ low_of (at w 6) → b6 ≡ high_of (at w 6)
    → a7 ≡ low_of (at w 7) → b7 ≡ high_of (at w 7)
    → a8 ≡ low_of (at w 8) → b8 ≡ high_of (at w 8)
    → ◌≡◌ {A = List ℤ} (a1 ∷ b1 ∷ a2 ∷ b2 ∷ a3 ∷ b3 ∷ a4 ∷ b4 ∷ a5 ∷ b5 ∷ a6 ∷ b6 ∷ a7 ∷ b7 ∷ a8 ∷ b8 ∷ []) (ids_from w 1)
same w a1 b1 a2 b2 a3 b3 a4 b4 a5 b5 a6 b6 a7 b7 a8 b8 h1 i1 h2 i2 h3 i3 h4 i4 h5 i5 h6 i6 h7 i7 h8 i8 = cc

returns : tie.Need-returns
returns c =
    let w = c.args.w.now in
    same w _ _ _ _ _ _ _ _ _ _ _ _ _ _ _ _
    (low_by (at w 1) c.low.ensures (search (rules, c.low-arg-1.given)) (search (rules, c.low.type_inv)))
    (high-by (at w 1) c.high.ensures (search (rules, c.high-arg-1.given)) (search (rules, c.high.type_inv)))
    (low_by (at w 2) c.low-2.ensures (search (rules, c.low-arg-2-1.given)) (search (rules, c.low-2.type_inv)))
    (high-by (at w 2) c.high-2.ensures (search (rules, c.high-arg-2-1.given)) (search (rules, c.high-2.type_inv)))
    (low_by (at w 3) c.low-3.ensures (search (rules, c.low-arg-3-1.given)) (search (rules, c.low-3.type_inv)))
    (high-by (at w 3) c.high-3.ensures (search (rules, c.high-arg-3-1.given)) (search (rules, c.high-3.type_inv)))
    (low_by (at w 4) c.low-4.ensures (search (rules, c.low-arg-4-1.given)) (search (rules, c.low-4.type_inv)))
    (high-by (at w 4) c.high-4.ensures (search (rules, c.high-arg-4-1.given)) (search (rules, c.high-4.type_inv)))
    (low_by (at w 5) c.low-5.ensures (search (rules, c.low-arg-5-1.given)) (search (rules, c.low-5.type_inv)))
    (high-by (at w 5) c.high-5.ensures (search (rules, c.high-arg-5-1.given)) (search (rules, c.high-5.type_inv)))
    (low_by (at w 6) c.low-6.ensures (search (rules, c.low-arg-6-1.given)) (search (rules, c.low-6.type_inv)))
    (high-by (at w 6) c.high-6.ensures (search (rules, c.high-arg-6-1.given)) (search (rules, c.high-6.type_inv)))
    (low_by (at w 7) c.low-7.ensures (search (rules, c.low-arg-7-1.given)) (search (rules, c.low-7.type_inv)))
    (high-by (at w 7) c.high-7.ensures (search (rules, c.high-arg-7-1.given)) (search (rules, c.high-7.type_inv)))
    (low_by (at w 8) c.low-8.ensures (search (rules, c.low-arg-8-1.given)) (search (rules, c.low-8.type_inv)))
    (high-by (at w 8) c.high-8.ensures (search (rules, c.high-arg-8-1.given)) (search (rules, c.high-8.type_inv)))

pub ids_in_spec : {M : Type 1} → statement M
ids_in_spec =
    tie.close
    (tie.spec
    (search rules) (search rules) (search rules) (search rules) (search rules) (search rules) (search rules) (search rules) (search rules)
    (search rules) (search rules) (search rules) (search rules) (search rules) (search rules) (search rules) (search rules) (search rules)
    (search rules) (search rules) (search rules) (search rules) (search rules) (search rules) (search rules) (search rules) (search rules)
    (search rules) (search rules) (search rules) (search rules) (search rules) returns)
