-- A walk in two: where its first half reaches a place between, and that it does at each beginning of a term, since no frame passes one.
use Rattle.std.proofs.Common.{◌≡◌, ℕ, zero, suc, ◌+◌, ◌-◌, ◌*◌, ◌/◌, ◌%◌, ◌<◌, ◌≤◌, eqb, leb, List, ◌∷◌, ◌++◌, sym, refl, ap, ◌∙◌, ap₂, mul-le-mul, lt_of_not-le, div-add-mod', arith, eqb-true, leb-false, leb-true}
use borrow.Author.Tests.{eqb-false}
use Rattle.model.proofs.Both.{test}
use Rattle.tally.specs.Walk.{Stream, Passed, size, met, walked, between, end_of}
use Rattle.tally.proofs.Steps.{stepped, met-frame, stops, goes, at-end, enough}
use Rattle.tally.proofs.Adding.{end_none, end_more, adding, end-within}

module _ (s : Stream) where
  -- a frame that one walk passes is met by every walk that goes far enough
  pub met-too : (to m p : ℕ) → (size (met s to p) ≡ 0 → ⊥) → p + size (met s to p) ≤ m → met s m p ≡ met s to p
  met-too to m p n h =
      let step = stepped s p to n in
      let z = ap size step.same in
      sym (met-frame s p m (omega (arith, step.some)) step.own (omega arith)) ∙ sym step.same

  -- the walk, one frame on, in a step that two walks share
  pub goes-too : (f to m p : ℕ) → (size (met s to p) ≡ 0 → ⊥) → p + size (met s to p) ≤ m
      → walked (suc f) s m p ≡ (record { at = p; frame = met s to p } ∷ walked f s m (p + size (met s to p)))
  goes-too f to m p n h =
      let e = met-too to m p n h in
      let k : size (met s m p) ≡ 0 → ⊥ = λ z. n (sym (ap size e) ∙ z) in
      rw e at (goes s p f m k)

  -- the end of a walk that goes on, and of one that does not
  end_on : (f to p : ℕ) → (size (met s to p) ≡ 0 → ⊥)
      → end_of p (walked (suc f) s to p) ≡ end_of (p + size (met s to p)) (walked f s to (p + size (met s to p)))
  end_on f to p n = ap (end_of p) (goes s p f to n) ∙ end_more p _ _

  end-here : (f to p : ℕ) → size (met s to p) ≡ 0 → end_of p (walked f s to p) ≡ p
  end-here f to p z = ap (end_of p) (stops s p f to z) ∙ end_none p

  -- where the walk up to m reaches m, the walk up to `to` goes on from there
  pub split : (f to m p : ℕ) → to - p ≤ f → p ≤ m → m ≤ to → end_of p (walked f s m p) ≡ m → walked f s to p ≡ walked f s m p ++ walked f s to m
  split zero to m p en lo hi r =
      let e : p ≡ m = omega arith in
      rw (stops s p zero m (at-end s m p (omega arith))) (ap (walked zero s to) e)
  split (suc f) to m p en lo hi r =
      test (eqb (size (met s m p)) 0)
      (λ e.
      let z = eqb-true (size (met s m p)) 0 e in
      let q : p ≡ m = sym (end-here (suc f) m p z) ∙ r in
      rw (stops s p (suc f) m z) (ap (walked (suc f) s to) q))
      (λ e.
      let n = eqb-false (size (met s m p)) 0 e in
      let step = stepped s p m n in
      let q = p + size (met s m p) in
      let i = split f to m q (omega (arith, step.some)) step.before hi (sym (end_on f m p n) ∙ r) in
      let more : walked f s to m ≡ walked (suc f) s to m = enough f (suc f) s to m (omega (arith, step.some, step.before)) (omega arith) in
      goes-too f m to p n (omega (arith, step.before))
      ∙ ap (λ (l : List Passed). record { at = p; frame = met s m p } ∷ l) (i ∙ ap (λ (l : List Passed). walked f s m q ++ l) more)
      ∙ sym (ap (λ (l : List Passed). l ++ walked (suc f) s to m) (goes s p f m n)))

  -- a frame that lies in its term does not pass the beginning of a later one
  boundary : (term p m n : ℕ) → m % term ≡ 0 → p < m → p % term + n ≤ term → p + n ≤ m
  boundary term p m n z l h =
      let dp = div-add-mod' p term in
      let dm = div-add-mod' m term in
      let less : p / term < m / term =
      lt_of_not-le (λ (k : m / term ≤ p / term). let g : m / term * term ≤ p / term * term = mul-le-mul k (le_refl term) in omega arith) in
      let up : p / term + 1 ≤ m / term = omega arith in
      let g : (p / term + 1) * term ≤ m / term * term = mul-le-mul up (le_refl term) in
      let d : (p / term + 1) * term ≡ p / term * term + term = omega arith in
      omega arith
    where
      le_refl : (n : ℕ) → n ≤ n
      le_refl n = omega arith

  -- a walk that reaches `to` comes by every beginning of a term
  crosses : (f to m p : ℕ) → to - p ≤ f → p ≤ m → m ≤ to → m % s.term ≡ 0 → end_of p (walked f s to p) ≡ to
      → (end_of p (walked f s m p) ≡ m) × (end_of m (walked f s to m) ≡ to)
  crosses zero to m p en lo hi z r =
      let e : p ≡ m = omega arith in
      (end-here zero m p (at-end s m p (omega arith)) ∙ e, end-here zero to m (at-end s to m (omega arith)) ∙ omega arith)
  crosses (suc f) to m p en lo hi z r =
      test (leb m p)
      (λ e.
      let q : p ≡ m = omega (arith, leb-true m p e) in
      (end-here (suc f) m p (at-end s m p (omega arith)) ∙ q, ap (λ (x : ℕ). end_of x (walked (suc f) s to x)) (sym q) ∙ r))
      (λ e.
      let l : p < m = leb-false m p e in
      let n : size (met s to p) ≡ 0 → ⊥ = λ y. let w = sym (end-here (suc f) to p y) ∙ r in omega arith in
      let step = stepped s p to n in
      let b = boundary s.term p m (size (met s to p)) z l step.inside in
      let i = crosses f to m (p + size (met s to p)) (omega (arith, step.some)) b hi z (sym (end_on f to p n) ∙ r) in
      let more : walked (suc f) s to m ≡ walked f s to m = enough (suc f) f s to m (omega arith) (omega (arith, step.some)) in
      (ap (end_of p) (goes-too f to m p n b) ∙ end_more p _ _ ∙ i.0, ap (end_of m) more ∙ i.1))

  -- a walk ends where it began, or after it
  pub end_after : (f to p : ℕ) → p ≤ end_of p (walked f s to p)
  end_after f to p = omega (arith, adding f s to p)

  -- and it is the walk up to where it ended
  pub to-its-end : (f to p : ℕ) → walked f s to p ≡ walked f s (end_of p (walked f s to p)) p
  unfolding walked
  to-its-end zero to p = refl
  to-its-end (suc f) to p =
      test (eqb (size (met s to p)) 0)
      (λ e.
      let z = eqb-true (size (met s to p)) 0 e in
      stops s p (suc f) to z ∙ sym (stops s p (suc f) _ (at-end s _ p (omega (arith, end-here (suc f) to p z)))))
      (λ e.
      let n = eqb-false (size (met s to p)) 0 e in
      let q = p + size (met s to p) in
      let g : end_of p (walked (suc f) s to p) ≡ end_of q (walked f s to q) = end_on f to p n in
      let w = goes-too f to (end_of p (walked (suc f) s to p)) p n (omega (arith, end_after f to q)) in
      goes s p f to n
      ∙ ap (λ (l : List Passed). record { at = p; frame = met s to p } ∷ l) (to-its-end f to q ∙ ap (λ (x : ℕ). walked f s x q) (sym g))
      ∙ sym w)

  -- ---- the same of whole walks

  fueled : (f p m : ℕ) → m - p ≤ f → walked f s m p ≡ between s p m
  fueled f p m h = enough f (m - p) s m p h (omega arith)

  pub split-stream : (p m to : ℕ) → p ≤ m → m ≤ to → end_of p (between s p m) ≡ m → between s p to ≡ between s p m ++ between s m to
  split-stream p m to lo hi r =
      let a = fueled (to - p) p m (omega arith) in
      let b = fueled (to - p) m to (omega arith) in
      split (to - p) to m p (omega arith) lo hi (ap (end_of p) a ∙ r) ∙ ap₂ (λ (x y : List Passed). x ++ y) a b

  pub cross-stream : (p m to : ℕ) → p ≤ m → m ≤ to → (p < m → m < to → m % s.term ≡ 0) → end_of p (between s p to) ≡ to
      → (end_of p (between s p m) ≡ m) × (end_of m (between s m to) ≡ to)
  cross-stream p m to lo hi z r =
      test (leb m p)
      (λ e.
      let q : p ≡ m = omega (arith, leb-true m p e) in
      (ap (λ (x : ℕ). end_of p (between s p x)) (sym q) ∙ end-here (p - p) p p (at-end s p p (omega arith)) ∙ q, ap (λ (x : ℕ). end_of x (between s x to)) (sym q) ∙ r))
      (λ e.
      test (leb to m)
      (λ g.
      let q : to ≡ m = omega (arith, leb-true to m g) in
      (ap (λ (x : ℕ). end_of p (between s p x)) (sym q) ∙ r ∙ q, ap (λ (x : ℕ). end_of x (between s x to)) (sym q) ∙ end-here (to - to) to to (at-end s to to (omega arith))))
      (λ g.
      let k = crosses (to - p) to m p (omega arith) lo hi (z (leb-false m p e) (leb-false to m g)) r in
      (ap (end_of p) (sym (fueled (to - p) p m (omega arith))) ∙ k.0, ap (end_of m) (sym (fueled (to - p) m to (omega arith))) ∙ k.1)))

  -- a walk is the walk up to where it ended, which reaches that
  pub stream_end : (p to : ℕ) → p ≤ to → between s p to ≡ between s p (end_of p (between s p to))
  stream_end p to h = to-its-end (to - p) to p ∙ fueled (to - p) p _ (omega (arith, end-within (to - p) s to p h))
