-- Bytes laid over a log: its length is kept, what was laid is read back, and pieces laid one behind the other are one piece.
use mathlib.Core.Path.{◌≡◌, sym, ap, ap₂, ◌∙◌}
use Prim.Native.Nat.{ℕ, ◌+◌, ◌-◌, ◌≤◌}
use mathlib.Core.List.{List, ◌++◌, append_assoc}
use native.Mathlib.Omega.{arith}
use lib.ListN.{length, take, drop, length-append, length-drop, length-replicate, replicate-append-replicate}
use lib.Seq.{take_at, drop_at, drop-drop, length-take-le}
use Rattle.model.specs.Bytes.{splice, zeros}

pub length-splice : (log : List ℕ) (at : ℕ) (new : List ℕ) → at + length new ≤ length log → length (splice log at new) ≡ length log
unfolding splice
length-splice log at new h =
    omega (arith, length-append (take at log) (new ++ drop (at + length new) log), length-append new (drop (at + length new) log), length-take-le at log (omega arith), length-drop (at + length new) log)

-- what was laid, and what lies behind it
pub drop-splice : (log : List ℕ) (at : ℕ) (new : List ℕ) → at ≤ length log → drop at (splice log at new) ≡ new ++ drop (at + length new) log
unfolding splice
drop-splice log at new l = drop_at (take at log) (new ++ drop (at + length new) log) at (length-take-le at log l)

-- in the middle of three pieces
pub splice-mid : (x y z new : List ℕ) (n : ℕ) → length x ≡ n → length y ≡ length new → splice (x ++ (y ++ z)) n new ≡ x ++ (new ++ z)
unfolding splice
splice-mid x y z new n e l =
    ap₂ (λ (a b : List ℕ). a ++ (new ++ b)) (take_at x (y ++ z) n e)
    (sym (drop-drop (length new) n (x ++ (y ++ z))) ∙ ap (drop (length new)) (drop_at x (y ++ z) n e) ∙ drop_at y z (length new) l)

-- a piece behind a piece is one piece
pub splice-more : (l : List ℕ) (at : ℕ) (a b : List ℕ) (n : ℕ) → at + length a ≡ n → at ≤ length l → splice (splice l at a) n b ≡ splice l at (a ++ b)
unfolding splice
splice-more l at a b n e h =
    let q = drop (at + length a) l in
    let p = take at l ++ a in
    let s : take at l ++ (a ++ q) ≡ p ++ q = sym (append_assoc (take at l) a q) in
    let k : length p ≡ n = omega (arith, length-append (take at l) a, length-take-le at l h) in
    let front : take n (take at l ++ (a ++ q)) ≡ p = ap (take n) s ∙ take_at p q n k in
    let sum : at + length a + length b ≡ at + length (a ++ b) = omega (arith, length-append a b) in
    let rest : drop (n + length b) (take at l ++ (a ++ q)) ≡ drop (at + length (a ++ b)) l =
    sym (drop-drop (length b) n (take at l ++ (a ++ q))) ∙ ap (λ (x : List ℕ). drop (length b) (drop n x)) s ∙ ap (drop (length b)) (drop_at p q n k)
    ∙ drop-drop (length b) (at + length a) l ∙ ap (λ (x : ℕ). drop x l) sum in
    ap₂ (λ (x y : List ℕ). x ++ (b ++ y)) front rest
    ∙ append_assoc (take at l) a (b ++ drop (at + length (a ++ b)) l)
    ∙ ap (λ (x : List ℕ). take at l ++ x) (sym (append_assoc a b (drop (at + length (a ++ b)) l)))

-- the beginning of a piece laid anew
pub splice-over : (l : List ℕ) (at : ℕ) (a b new : List ℕ) → length a ≡ length new → at ≤ length l → splice (splice l at (a ++ b)) at new ≡ splice l at (new ++ b)
unfolding splice
splice-over l at a b new e h =
    let p = take at l in
    let q = drop (at + length (a ++ b)) l in
    let sum : at + length (a ++ b) ≡ at + length (new ++ b) = omega (arith, length-append a b, length-append new b) in
    ap (λ (x : List ℕ). splice (p ++ x) at new) (append_assoc a b q)
    ∙ splice-mid p a (b ++ q) new at (length-take-le at l h) e
    ∙ ap (λ (x : List ℕ). p ++ x) (sym (append_assoc new b q))
    ∙ ap (λ (n : ℕ). p ++ ((new ++ b) ++ drop n l)) sum

-- ---- zeros

pub length-zeros : (n : ℕ) → length (zeros n) ≡ n
unfolding zeros
length-zeros n = length-replicate n 0

pub zeros-add : (n m : ℕ) → zeros n ++ zeros m ≡ zeros (n + m)
unfolding zeros
zeros-add n m = replicate-append-replicate n m 0

pub splice-zeros : (x new : List ℕ) (z n : ℕ) → length x ≡ n → length new ≤ z → splice (x ++ zeros z) n new ≡ x ++ (new ++ zeros (z - length new))
splice-zeros x new z n e l =
    ap (λ (k : ℕ). splice (x ++ zeros k) n new) (omega arith)
    ∙ ap (λ (r : List ℕ). splice (x ++ r) n new) (sym (zeros-add (length new) (z - length new)))
    ∙ splice-mid x (zeros (length new)) (zeros (z - length new)) new n e (length-zeros (length new))
