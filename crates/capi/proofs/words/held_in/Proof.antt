-- Word by word.
use mathlib.Core.Path.{◌≡◌}
use Prim.Native.Nat.{ℕ}
use mathlib.Core.List.{List, [], ◌∷◌}
use lib.IntN.{ℤ}
use Rattle.model.specs.Bytes.{long}
use Rattle.logbuffer.proofs.Signed.{long-by}
use Rattle.capi.specs.Words.{at, held_from}
use borrow.Author.Rules.{rules}
use Rattle.capi.proofs.words.held_in.Statement.{statement}
use Rattle.capi.proofs.words.held_in.Tie as tie

same : (w : List ℤ) (n0 n1 n2 n3 n4 n5 n6 n7 n8 n9 n10 n11 n12 n13 n14 n15 : ℕ)
    → n0 ≡ long (at w 9) → n1 ≡ long (at w 10) → n2 ≡ long (at w 11) → n3 ≡ long (at w 12)
    → n4 ≡ long (at w 13) → n5 ≡ long (at w 14) → n6 ≡ long (at w 15) → n7 ≡ long (at w 16)
    → n8 ≡ long (at w 17) → n9 ≡ long (at w 18) → n10 ≡ long (at w 19) → n11 ≡ long (at w 20)
    → n12 ≡ long (at w 21) → n13 ≡ long (at w 22) → n14 ≡ long (at w 23) → n15 ≡ long (at w 24)
    → ◌≡◌ {A = List ℕ} (n0 ∷ n1 ∷ n2 ∷ n3 ∷ n4 ∷ n5 ∷ n6 ∷ n7 ∷ n8 ∷ n9 ∷ n10 ∷ n11 ∷ n12 ∷ n13 ∷ n14 ∷ n15 ∷ []) (held_from w 9)
same w n0 n1 n2 n3 n4 n5 n6 n7 n8 n9 n10 n11 n12 n13 n14 n15 h0 h1 h2 h3 h4 h5 h6 h7 h8 h9 h10 h11 h12 h13 h14 h15 = cc

returns : tie.Need-returns
returns c =
    let w = c.args.w.now in
    same w _ _ _ _ _ _ _ _ _ _ _ _ _ _ _ _
    (long-by (at w 9) c.long.ensures.0 (search (rules, c.long-arg-1.given)))
    (long-by (at w 10) c.long-2.ensures.0 (search (rules, c.long-arg-2-1.given)))
    (long-by (at w 11) c.long-3.ensures.0 (search (rules, c.long-arg-3-1.given)))
    (long-by (at w 12) c.long-4.ensures.0 (search (rules, c.long-arg-4-1.given)))
    (long-by (at w 13) c.long-5.ensures.0 (search (rules, c.long-arg-5-1.given)))
    (long-by (at w 14) c.long-6.ensures.0 (search (rules, c.long-arg-6-1.given)))
    (long-by (at w 15) c.long-7.ensures.0 (search (rules, c.long-arg-7-1.given)))
    (long-by (at w 16) c.long-8.ensures.0 (search (rules, c.long-arg-8-1.given)))
    (long-by (at w 17) c.long-9.ensures.0 (search (rules, c.long-arg-9-1.given)))
    (long-by (at w 18) c.long-10.ensures.0 (search (rules, c.long-arg-10-1.given)))
    (long-by (at w 19) c.long-11.ensures.0 (search (rules, c.long-arg-11-1.given)))
    (long-by (at w 20) c.long-12.ensures.0 (search (rules, c.long-arg-12-1.given)))
    (long-by (at w 21) c.long-13.ensures.0 (search (rules, c.long-arg-13-1.given)))
    (long-by (at w 22) c.long-14.ensures.0 (search (rules, c.long-arg-14-1.given)))
    (long-by (at w 23) c.long-15.ensures.0 (search (rules, c.long-arg-15-1.given)))
    (long-by (at w 24) c.long-16.ensures.0 (search (rules, c.long-arg-16-1.given)))

pub held_in_spec : {M : Type 1} → statement M
held_in_spec =
    tie.close
    (tie.spec
    (search rules) (search rules) (search rules) (search rules) (search rules) (search rules) (search rules) (search rules) (search rules)
    (search rules) (search rules) (search rules) (search rules) (search rules) (search rules) (search rules) (search rules) (search rules)
    (search rules) (search rules) (search rules) (search rules) (search rules) (search rules) (search rules) (search rules) (search rules)
    (search rules) (search rules) (search rules) (search rules) (search rules) returns)
