-- Bytes of 0: what `zero_from` says of each of them.
-- Cases is named here, so that the checker meets a wrong definition first in a fact about it.
use Rattle.std.specs.Prelude.{◌↔◌, IsTrue, EachIndex, slice_index}
use mathlib.Core.Path.{◌≡◌, refl, sym, ap, ap₂, ◌∙◌}
use Prim.Native.Nat.{ℕ, zero, suc, ◌+◌, ◌-◌, ◌≤◌, ◌<◌}
use mathlib.Core.Bool.{Bool, true, false}
use mathlib.Core.List.{List, ◌∷◌}
use native.Mathlib.Omega.{arith}
use native.Mathlib.Numerals.{add-one}
use borrow.Author.Tests.{eq-eqb, eqb-true, eqb-false}
use lib.Dec.{eqb}
use lib.ListN.{length, take, drop, get_or, length-drop}
use lib.Seq.{drop-cons, get_or-take, get_or-drop, length-take-le}
use Rattle.model.specs.Bytes.{zeros}
use Rattle.model.proofs.Both.{and-true, both_true, test}
use Rattle.metadata.specs.Metadata.{zero_from}
use Rattle.metadata.proofs.Cases as Cases

-- ---- judged

pub zero-all : (n : ℕ) (s : List ℕ) (at : ℕ) → ((j : ℕ) → at ≤ j → j < at + n → get_or s j 0 ≡ 0) → zero_from n s at ≡ true
unfolding zero_from
zero-all zero s at h = refl
zero-all (suc n) s at h =
    both_true (eq-eqb (get_or s at 0) 0 (h at (omega arith) (omega arith))) (zero-all n s (at + 1) (λ j l u. h j (omega arith) (omega arith)))

pub zero-each : (n : ℕ) (s : List ℕ) (at : ℕ) → zero_from n s at ≡ true → (j : ℕ) → at ≤ j → j < at + n → get_or s j 0 ≡ 0
unfolding zero_from
zero-each zero s at h j l u = absurd (omega arith)
zero-each (suc n) s at h j l u =
    let p = and-true (eqb (get_or s at 0) 0) (zero_from n s (at + 1)) h in
    test (eqb j at)
    (λ q. ap (λ (i : ℕ). get_or s i 0) (eqb-true j at q) ∙ eqb-true (get_or s at 0) 0 p.0)
    (λ q. zero-each n s (at + 1) p.1 j (omega (arith, eqb-false j at q)) (omega arith))

-- a test of each byte of the part decides
pub zero-part : (n : ℕ) (s : List ℕ) (at m : ℕ) (b : Bool) → m ≡ n → at + n ≤ length s
    → IsTrue b ↔ EachIndex (take m (drop at s)) (λ k. slice_index (take m (drop at s)) k ≡ 0) → b ≡ zero_from n s at
zero-part n s at m b e l h = go b h
  where
    at-index : (k : ℕ) → k < n → get_or (take m (drop at s)) k 0 ≡ get_or s (at + k) 0
    at-index k q = get_or-take m (drop at s) k 0 (omega arith) ∙ get_or-drop at s k 0

    size : length (take m (drop at s)) ≡ n
    size = length-take-le m (drop at s) (omega (arith, length-drop at s)) ∙ e

    go : (b : Bool) → IsTrue b ↔ EachIndex (take m (drop at s)) (λ k. slice_index (take m (drop at s)) k ≡ 0) → b ≡ zero_from n s at
    go true g = sym (zero-all n s at (λ j low up.
        let i : at + (j - at) ≡ j = omega arith in
        ap (λ (x : ℕ). get_or s x 0) (sym i) ∙ sym (at-index (j - at) (omega arith)) ∙ g.0 refl (j - at) (omega (arith, size))))
    go false g = sym (test (zero_from n s at) (λ q. absurd (let f : IsTrue false = g.1 (λ k d. at-index k (omega (arith, size)) ∙ zero-each n s at q (at + k) (omega arith) (omega (arith, size))) in cc)) (λ q. q))

-- as bytes
pub zero-bytes : (n : ℕ) (s : List ℕ) (at : ℕ) → at + n ≤ length s → zero_from n s at ≡ true → zeros n ≡ take n (drop at s)
unfolding zero_from zeros
zero-bytes zero s at l h = refl
zero-bytes (suc n) s at l h =
    let p = and-true (eqb (get_or s at 0) 0) (zero_from n s (at + 1)) h in
    ap₂ (λ (x : ℕ) (y : List ℕ). x ∷ y) (sym (eqb-true (get_or s at 0) 0 p.0)) (zero-bytes n s (at + 1) (omega arith) p.1 ∙ ap (λ (i : ℕ). take n (drop i s)) (add-one at))
    ∙ sym (ap (take (suc n)) (drop-cons s at 0 (omega arith)))
