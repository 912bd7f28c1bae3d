-- Pair by pair.
use mathlib.Core.Path.{◌≡◌}
use mathlib.Core.List.{List}
use lib.IntN.{ℤ}
use lib.ListN.{set}
use Rattle.capi.specs.Words.{at, pair_of, ids_to}
use Rattle.capi.proofs.Halves.{pair-by}
use borrow.Author.Rules.{rules}
use Rattle.capi.proofs.words.ids_out.Statement.{statement}
use Rattle.capi.proofs.words.ids_out.Tie as tie

same : (w ids : List ℤ) (a0 a1 a2 a3 a4 a5 a6 a7 : ℤ)
    → a0 ≡ pair_of (at ids 0) (at ids 1) → a1 ≡ pair_of (at ids 2) (at ids 3)
    → a2 ≡ pair_of (at ids 4) (at ids 5) → a3 ≡ pair_of (at ids 6) (at ids 7)
    → a4 ≡ pair_of (at ids 8) (at ids 9) → a5 ≡ pair_of (at ids 10) (at ids 11)
    → a6 ≡ pair_of (at ids 12) (at ids 13) → a7 ≡ pair_of (at ids 14) (at ids 15)
    → set (set (set (set (set (set (set (set w 1 a0) 2 a1) 3 a2) 4 a3) 5 a4) 6 a5) 7 a6) 8 a7 ≡ ids_to w 1 ids
same w ids a0 a1 a2 a3 a4 a5 a6 a7 h0 h1 h2 h3 h4 h5 h6 h7 = cc

returns : tie.Need-returns
returns c =
    let s = c.args in
    let ids = s.ids.now in
    same s.w.now ids _ _ _ _ _ _ _ _
    (pair-by (at ids 0) (at ids 1) c.pair.ensures (search (rules, c.pair-arg-1.given)) (search (rules, c.pair-arg-2-1.given)) (search (rules, c.pair.type_inv)))
    (pair-by (at ids 2) (at ids 3) c.pair-2.ensures (search (rules, c.pair-arg-3-1.given)) (search (rules, c.pair-arg-4-1.given)) (search (rules, c.pair-2.type_inv)))
    (pair-by (at ids 4) (at ids 5) c.pair-3.ensures (search (rules, c.pair-arg-5-1.given)) (search (rules, c.pair-arg-6-1.given)) (search (rules, c.pair-3.type_inv)))
    (pair-by (at ids 6) (at ids 7) c.pair-4.ensures (search (rules, c.pair-arg-7-1.given)) (search (rules, c.pair-arg-8-1.given)) (search (rules, c.pair-4.type_inv)))
    (pair-by (at ids 8) (at ids 9) c.pair-5.ensures (search (rules, c.pair-arg-9-1.given)) (search (rules, c.pair-arg-10-1.given)) (search (rules, c.pair-5.type_inv)))
    (pair-by (at ids 10) (at ids 11) c.pair-6.ensures (search (rules, c.pair-arg-11-1.given)) (search (rules, c.pair-arg-12-1.given)) (search (rules, c.pair-6.type_inv)))
    (pair-by (at ids 12) (at ids 13) c.pair-7.ensures (search (rules, c.pair-arg-13-1.given)) (search (rules, c.pair-arg-14-1.given)) (search (rules, c.pair-7.type_inv)))
    (pair-by (at ids 14) (at ids 15) c.pair-8.ensures (search (rules, c.pair-arg-15-1.given)) (search (rules, c.pair-arg-16-1.given)) (search (rules, c.pair-8.type_inv)))

pub ids_out_spec : {M : Type 1} → statement M
ids_out_spec =
    tie.close
    (tie.spec
    (search rules) (search rules) (search rules) (search rules) (search rules) (search rules) (search rules) (search rules) (search rules)
    (search rules) (search rules) (search rules) (search rules) (search rules) (search rules) (search rules) (search rules) (search rules)
    (search rules) (search rules) (search rules) (search rules) (search rules) (search rules) (search rules) (search rules) (search rules)
    (search rules) (search rules) (search rules) (search rules) (search rules) returns)
