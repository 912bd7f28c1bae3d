-- Word by word.
use mathlib.Core.Path.{◌≡◌}
use Prim.Native.Nat.{ℕ}
use mathlib.Core.List.{List}
use lib.IntN.{ℤ}
use lib.ListN.{get_or, set}
use Rattle.capi.specs.Words.{count_out, held_to}
use Rattle.capi.proofs.Promised.{promised64}
use borrow.Author.Rules.{rules}
use Rattle.capi.proofs.words.held_out.Statement.{statement}
use Rattle.capi.proofs.words.held_out.Tie as tie

same : (w : List ℤ) (held : List ℕ) (a0 a1 a2 a3 a4 a5 a6 a7 a8 a9 a10 a11 a12 a13 a14 a15 : ℤ)
    → a0 ≡ count_out (get_or held 0 0) → a1 ≡ count_out (get_or held 1 0) → a2 ≡ count_out (get_or held 2 0) → a3 ≡ count_out (get_or held 3 0)
    → a4 ≡ count_out (get_or held 4 0) → a5 ≡ count_out (get_or held 5 0) → a6 ≡ count_out (get_or held 6 0) → a7 ≡ count_out (get_or held 7 0)
    → a8 ≡ count_out (get_or held 8 0) → a9 ≡ count_out (get_or held 9 0) → a10 ≡ count_out (get_or held 10 0) → a11 ≡ count_out (get_or held 11 0)
    → a12 ≡ count_out (get_or held 12 0) → a13 ≡ count_out (get_or held 13 0) → a14 ≡ count_out (get_or held 14 0) → a15 ≡ count_out (get_or held 15 0)
    → set (set (set (set (set (set (set (set (set (set (set (set (set (set (set (set w 9 a0) 10 a1) 11 a2) 12 a3) 13 a4) 14 a5) 15 a6) 16 a7) 17 a8) 18 a9) 19 a10) 20 a11) 21 a12) 22 a13) 23 a14) 24 a15 ≡ held_to w 9 held
same w held a0 a1 a2 a3 a4 a5 a6 a7 a8 a9 a10 a11 a12 a13 a14 a15 h0 h1 h2 h3 h4 h5 h6 h7 h8 h9 h10 h11 h12 h13 h14 h15 = cc

returns : tie.Need-returns
returns c =
    let s = c.args in
    same s.w.now s.held.now _ _ _ _ _ _ _ _ _ _ _ _ _ _ _ _
    (promised64 c.to_i64.ensures (search (rules, c.to_i64.type_inv)))
    (promised64 c.to_i64-2.ensures (search (rules, c.to_i64-2.type_inv)))
    (promised64 c.to_i64-3.ensures (search (rules, c.to_i64-3.type_inv)))
    (promised64 c.to_i64-4.ensures (search (rules, c.to_i64-4.type_inv)))
    (promised64 c.to_i64-5.ensures (search (rules, c.to_i64-5.type_inv)))
    (promised64 c.to_i64-6.ensures (search (rules, c.to_i64-6.type_inv)))
    (promised64 c.to_i64-7.ensures (search (rules, c.to_i64-7.type_inv)))
    (promised64 c.to_i64-8.ensures (search (rules, c.to_i64-8.type_inv)))
    (promised64 c.to_i64-9.ensures (search (rules, c.to_i64-9.type_inv)))
    (promised64 c.to_i64-10.ensures (search (rules, c.to_i64-10.type_inv)))
    (promised64 c.to_i64-11.ensures (search (rules, c.to_i64-11.type_inv)))
    (promised64 c.to_i64-12.ensures (search (rules, c.to_i64-12.type_inv)))
    (promised64 c.to_i64-13.ensures (search (rules, c.to_i64-13.type_inv)))
    (promised64 c.to_i64-14.ensures (search (rules, c.to_i64-14.type_inv)))
    (promised64 c.to_i64-15.ensures (search (rules, c.to_i64-15.type_inv)))
    (promised64 c.to_i64-16.ensures (search (rules, c.to_i64-16.type_inv)))

pub held_out_spec : {M : Type 1} → statement M
held_out_spec =
    tie.close
    (tie.spec
    (search rules) (search rules) (search rules) (search rules) (search rules) (search rules) (search rules) (search rules) (search rules)
    (search rules) (search rules) (search rules) (search rules) (search rules) (search rules) (search rules) (search rules) (search rules)
    (search rules) (search rules) (search rules) (search rules) (search rules) (search rules) (search rules) (search rules) (search rules)
    (search rules) (search rules) (search rules) (search rules) (search rules) (search rules) (search rules) (search rules) (search rules)
    (search rules) (search rules) (search rules) (search rules) (search rules) (search rules) (search rules) (search rules) (search rules)
    (search rules) (search rules) (search rules) returns)
