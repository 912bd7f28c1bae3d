-- The parts of a walk by partition. Cut at the beginnings of terms, the walk in stream order is its parts one after the other; each
-- part's frames lie in one partition; so the frames of partition k are the part of the term that lies there.
use Rattle.std.proofs.Common.{◌≡◌, ℕ, zero, suc, ◌+◌, ◌-◌, ◌*◌, ◌/◌, ◌%◌, ◌<◌, ◌≤◌, true, false, cond, eqb, List, [], ◌∷◌, ◌++◌, sym, refl, ap, ◌∙◌, ap₂, append-nil, le_refl, mul-le-mul, div-add-mod', arith, eq-eqb, ne_eqb, eqb-true, leb-true}
use native.Mathlib.Nat.{div-eq_of_lt-le, mul-mod_left}
use borrow.Author.Tests.{eqb-false}
use Rattle.model.specs.declared.Frame.{Frame}
use Rattle.model.specs.LogBufferDescriptor.{partition_of}
use Rattle.model.proofs.Both.{test, and-true}
use Rattle.tally.specs.declared.Sums.{Sums}
use Rattle.tally.specs.declared.Partitions.{Partitions}
use Rattle.tally.specs.Walk.{Stream, Passed, size, met, walked, between, end_of}
use Rattle.tally.specs.Tally.{body_of, header_of, slack_of, padding_of, sum, sums_of, total}
use Rattle.tally.specs.Partitions.{edge, term_in, part, reaches, by_parts, inside, by_stream, all_reach, all_of, partitioned, partitioned_end}
use Rattle.tally.specs.Theorems.{EachInStream}
use Rattle.tally.proofs.Steps.{stepped, no_fuel, stops, goes}
use Rattle.tally.proofs.Adding.{adds-up, end-within}
use Rattle.tally.proofs.Turning.{made}
use Rattle.tally.proofs.Splitting.{split-stream, cross-stream, stream_end, end_after}

-- ---- the edges

module _ (term from to : ℕ) (o : from ≤ to) where
  pub edge-up : (t : ℕ) → edge term from to t ≤ edge term from to (t + 1)
  edge-up t = let d : (t + 1) * term ≡ t * term + term = omega arith in omega arith

  -- a part that is not empty lies in its term
  pub edge-low : (t : ℕ) → edge term from to t < edge term from to (t + 1) → t * term ≤ edge term from to t
  edge-low t h = let d : (t + 1) * term ≡ t * term + term = omega arith in omega arith

  pub edge-high : (t : ℕ) → edge term from to t < edge term from to (t + 1) → edge term from to (t + 1) ≤ (t + 1) * term
  edge-high t h = let d : (t + 1) * term ≡ t * term + term = omega arith in omega arith

  pub edge-first : edge term from to (from / term) ≡ from
  edge-first = omega (arith, div-add-mod' from term)

  pub edge-last : to ≤ (from / term + 3) * term → edge term from to (from / term + 1 + 1 + 1) ≡ to
  edge-last h = let d : (from / term + 1 + 1 + 1) * term ≡ (from / term + 3) * term = omega arith in omega arith

-- ---- the frames inside a partition

pub inside-append : (term k : ℕ) (a b : List Passed) → inside term k (a ++ b) ≡ inside term k a ++ inside term k b
unfolding inside
inside-append term k [] b = refl
inside-append term k (f ∷ fs) b =
    test (eqb (partition_of f.at term) k)
    (λ e. rw (e, inside-append term k fs b))
    (λ e. rw (e, inside-append term k fs b))

-- one frame more
inside-more : (term k : ℕ) (f : Passed) (fs : List Passed) → inside term k (f ∷ fs) ≡ cond (eqb (partition_of f.at term) k) (f ∷ inside term k fs) (inside term k fs)
unfolding inside
inside-more term k f fs = refl

inside-none : (term k : ℕ) → inside term k [] ≡ []
unfolding inside
inside-none term k = refl

-- all of a walk inside term t, or none of it
module _ (s : Stream) (t m : ℕ) where
  abbrev term : ℕ
  term = s.term

  in-term : (p : ℕ) → t * term ≤ p → p < m → m ≤ (t + 1) * term → partition_of p term ≡ t % 3
  in-term p lo l hi = ap (λ (x : ℕ). x % 3) (div-eq_of_lt-le term lo (omega arith))

  pub own-part : (f p k : ℕ) → t % 3 ≡ k → (p < m → t * term ≤ p) → (p < m → m ≤ (t + 1) * term) → inside term k (walked f s m p) ≡ walked f s m p
  own-part zero p k e lo hi = rw (no_fuel s p m) (inside-none term k)
  own-part (suc f) p k e lo hi =
      test (eqb (size (met s m p)) 0)
      (λ z. rw (stops s p (suc f) m (eqb-true (size (met s m p)) 0 z)) (inside-none term k))
      (λ z.
      let n = eqb-false (size (met s m p)) 0 z in
      let step = stepped s p m n in
      let l : p < m = omega (arith, step.some, step.before) in
      let q = p + size (met s m p) in
      let i = own-part f q k e (λ _. omega (arith, lo l)) (λ _. hi l) in
      rw (goes s p f m n) (inside-more term k _ _ ∙ rw (eq-eqb (partition_of p term) k (in-term p (lo l) l (hi l) ∙ e), i)))

  pub other-part : (f p k : ℕ) → (t % 3 ≡ k → ⊥) → (p < m → t * term ≤ p) → (p < m → m ≤ (t + 1) * term) → inside term k (walked f s m p) ≡ []
  other-part zero p k e lo hi = rw (no_fuel s p m) (inside-none term k)
  other-part (suc f) p k e lo hi =
      test (eqb (size (met s m p)) 0)
      (λ z. rw (stops s p (suc f) m (eqb-true (size (met s m p)) 0 z)) (inside-none term k))
      (λ z.
      let n = eqb-false (size (met s m p)) 0 z in
      let step = stepped s p m n in
      let l : p < m = omega (arith, step.some, step.before) in
      let q = p + size (met s m p) in
      let i = other-part f q k e (λ _. omega (arith, lo l)) (λ _. hi l) in
      rw (goes s p f m n) (inside-more term k _ _ ∙ rw (ne_eqb (partition_of p term) k (λ w. e (sym (in-term p (lo l) l (hi l)) ∙ w)), i)))

-- over all three partitions, whatever is added up over the frames
pub sum_inside : (g : Frame → ℕ) (term : ℕ) (fs : List Passed) → sum g (inside term 0 fs) + sum g (inside term 1 fs) + sum g (inside term 2 fs) ≡ sum g fs
unfolding sum inside
sum_inside g term [] = refl
sum_inside g term (f ∷ fs) = go (partition_of f.at term) refl (sum_inside g term fs)
  where
    go : (k : ℕ) → partition_of f.at term ≡ k → sum g (inside term 0 fs) + sum g (inside term 1 fs) + sum g (inside term 2 fs) ≡ sum g fs
        → sum g (cond (eqb (partition_of f.at term) 0) (f ∷ inside term 0 fs) (inside term 0 fs))
        + sum g (cond (eqb (partition_of f.at term) 1) (f ∷ inside term 1 fs) (inside term 1 fs))
        + sum g (cond (eqb (partition_of f.at term) 2) (f ∷ inside term 2 fs) (inside term 2 fs)) ≡ g f.frame + sum g fs
    go zero e i = rw e (omega (arith, i))
    go (suc zero) e i = rw e (omega (arith, i))
    go (suc (suc zero)) e i = rw e (omega (arith, i))
    go (suc (suc (suc k))) e i = absurd (omega arith)

-- ---- the parts

end-append : (p : ℕ) (a b : List Passed) → end_of p (a ++ b) ≡ end_of (end_of p a) b
unfolding end_of
end-append p [] b = refl
end-append p (f ∷ fs) b = end-append (f.at + size f.frame) fs b

module _ (s : Stream) (from to : ℕ) (o : from ≤ to) (three : to ≤ (from / s.term + 3) * s.term) where
  -- the three terms, and their edges
  abbrev t0 : ℕ
  t0 = from / s.term

  abbrev t1 : ℕ
  t1 = t0 + 1

  abbrev t2 : ℕ
  t2 = t1 + 1

  abbrev e : ℕ → ℕ
  e t = edge s.term from to t

  abbrev up : (t : ℕ) → e t ≤ e (t + 1)
  up t = edge-up s.term from to o t

  -- the part in term t
  abbrev cut : ℕ → List Passed
  cut t = between s (e t) (e (t + 1))

  -- every part reaches its end
  pub record All : Type 0 where
    pub r0 : end_of (e t0) (cut t0) ≡ e t1
    pub r1 : end_of (e t1) (cut t1) ≡ e t2
    pub r2 : end_of (e t2) (cut t2) ≡ e (t2 + 1)

  whole_is : between s from to ≡ between s (e t0) (e (t2 + 1))
  whole_is = ap₂ (λ (x y : ℕ). between s x y) (sym (edge-first s.term from to o)) (sym (edge-last s.term from to o three))

  -- then the walk is the parts, one after the other, and it reaches the second position
  parts : All → between s from to ≡ cut t0 ++ (cut t1 ++ cut t2)
  parts a =
      whole_is
      ∙ split-stream s (e t0) (e t1) (e (t2 + 1)) (up t0) (omega (arith, up t1, up t2)) a.r0
      ∙ ap (λ (l : List Passed). cut t0 ++ l) (split-stream s (e t1) (e t2) (e (t2 + 1)) (up t1) (up t2) a.r1)

  pub parts-end : All → end_of from (between s from to) ≡ to
  parts-end a =
      ap₂ (λ (x : ℕ) (l : List Passed). end_of x l) (sym (edge-first s.term from to o)) (parts a)
      ∙ end-append (e t0) (cut t0) _ ∙ ap (λ (x : ℕ). end_of x (cut t1 ++ cut t2)) a.r0
      ∙ end-append (e t1) (cut t1) _ ∙ ap (λ (x : ℕ). end_of x (cut t2)) a.r1
      ∙ a.r2 ∙ edge-last s.term from to o three

  -- and so they do where the walk reaches it
  begin : (t : ℕ) → e t < e (t + 1) → e (t + 1) < to → e (t + 1) % s.term ≡ 0
  begin t h l =
      let d : e (t + 1) ≡ (t + 1) * s.term = omega (arith, edge-high s.term from to o t h) in
      ap (λ (x : ℕ). x % s.term) d ∙ mul-mod_left (t + 1) s.term

  pub all-reach : end_of from (between s from to) ≡ to → All
  all-reach r =
      let l = edge-last s.term from to o three in
      let f = edge-first s.term from to o in
      let w : end_of (e t0) (between s (e t0) (e (t2 + 1))) ≡ e (t2 + 1) = ap₂ (λ (x : ℕ) (l : List Passed). end_of x l) f (sym whole_is) ∙ r ∙ sym l in
      let a = cross-stream s (e t0) (e t1) (e (t2 + 1)) (up t0) (omega (arith, up t1, up t2)) (λ h k. begin t0 h (omega (arith, l))) w in
      let b = cross-stream s (e t1) (e t2) (e (t2 + 1)) (up t1) (up t2) (λ h k. begin t1 h (omega (arith, l))) a.1 in
      record { r0 = a.0; r1 = b.0; r2 = b.1 }

  -- a part lies in its partition
  own : (t k : ℕ) → t % 3 ≡ k → inside s.term k (cut t) ≡ cut t
  own t k h = own-part s t (e (t + 1)) _ (e t) k h (edge-low s.term from to o t) (edge-high s.term from to o t)

  other : (t k : ℕ) → (t % 3 ≡ k → ⊥) → inside s.term k (cut t) ≡ []
  other t k h = other-part s t (e (t + 1)) _ (e t) k h (edge-low s.term from to o t) (edge-high s.term from to o t)

  -- the frames of partition k are the part of the term that lies there
  inside_is : (k : ℕ) → k < 3 → inside s.term k (cut t0 ++ (cut t1 ++ cut t2)) ≡ cut (term_in s.term from k)
  inside_is k h =
      inside-append s.term k (cut t0) _ ∙ ap (λ (l : List Passed). inside s.term k (cut t0) ++ l) (inside-append s.term k (cut t1) (cut t2))
      ∙ go ((k + 2 * t0) % 3) refl
    where
      go : (i : ℕ) → (k + 2 * t0) % 3 ≡ i → inside s.term k (cut t0) ++ (inside s.term k (cut t1) ++ inside s.term k (cut t2)) ≡ cut (t0 + (k + 2 * t0) % 3)
      go zero q =
          rw (own t0 k (omega arith), other t1 k (λ w. omega arith), other t2 k (λ w. omega arith))
          (append-nil (cut t0) ∙ ap (λ (t : ℕ). cut t) (omega arith))
      go (suc zero) q =
          rw (other t0 k (λ w. omega arith), own t1 k (omega arith), other t2 k (λ w. omega arith))
          (append-nil (cut t1) ∙ ap (λ (t : ℕ). cut t) (omega arith))
      go (suc (suc zero)) q =
          rw (other t0 k (λ w. omega arith), other t1 k (λ w. omega arith), own t2 k (omega arith)) (ap (λ (t : ℕ). cut t) (omega arith))
      go (suc (suc (suc i))) q = absurd (omega arith)

  -- so by the parts or by the stream: the same sums
  pub by_parts_lem : All → by_parts s from to ≡ by_stream s.term (between s from to)
  unfolding by_parts by_stream part
  by_parts_lem a = rw (parts a, inside_is 0 (omega arith), inside_is 1 (omega arith), inside_is 2 (omega arith))

  -- what the three tests say, by partitions, of the three terms
  abbrev Reached : ℕ → Type 0
  Reached t = end_of (e t) (cut t) ≡ e (t + 1)

  by_three : (P : ℕ → Type 0) → P 0 → P 1 → P 2 → (k : ℕ) → k < 3 → P k
  by_three P a b c zero h = a
  by_three P a b c (suc zero) h = b
  by_three P a b c (suc (suc zero)) h = c
  by_three P a b c (suc (suc (suc k))) h = absurd (omega arith)

  pub all-of : all_reach s from to ≡ true → All
  unfolding all_reach reaches part
  all-of h =
      let a = and-true (reaches s from to (term_in s.term from 0)) _ h in
      let b = and-true (reaches s from to (term_in s.term from 1)) _ a.1 in
      let r : (k : ℕ) → k < 3 → Reached (term_in s.term from k) =
      by_three (λ k. Reached (term_in s.term from k)) (eqb-true _ _ a.0) (eqb-true _ _ b.0) (eqb-true _ _ b.1) in
      let at : (t : ℕ) → term_in s.term from (t % 3) ≡ t → Reached t = λ t q. rw q at (r (t % 3) (omega arith)) in
      record { r0 = at t0 (omega arith); r1 = at t1 (omega arith); r2 = at t2 (omega arith) }

  pub each_in : partitioned s from to ≡ by_stream s.term (between s from to)
  unfolding partitioned
  each_in = test (all_reach s from to) (λ h. rw h (by_parts_lem (all-of h))) (λ h. rw h)

  pub end-in : partitioned_end s from to ≡ end_of from (between s from to)
  unfolding partitioned_end
  end-in = test (all_reach s from to) (λ h. rw h (sym (parts-end (all-of h)))) (λ h. rw h)

pub all_in : (term : ℕ) (fs : List Passed) → all_of (by_stream term fs) ≡ sums_of fs
unfolding by_stream
all_in term fs = made _ _ _ _ _ _ _ _ (sum_inside body_of term fs) (sum_inside header_of term fs) (sum_inside slack_of term fs) (sum_inside padding_of term fs)

-- where a part stops short: the parts up to where the stream order ended
pub short : (s : Stream) (from to : ℕ) → from ≤ to → to ≤ (from / s.term + 3) * s.term
    → by_parts s from (end_of from (between s from to)) ≡ by_stream s.term (between s from to)
short s from to o three =
    let end = end_of from (between s from to) in
    let same : between s from to ≡ between s from end = stream_end s from to o in
    let lo : from ≤ end = end_after s (to - from) to from in
    let t : end ≤ (from / s.term + 3) * s.term = omega (arith, end-within (to - from) s to from o) in
    by_parts_lem s from end lo t (all-reach s from end lo t (sym (ap (end_of from) same))) ∙ ap (by_stream s.term) (sym same)

pub each-in-stream : EachInStream
each-in-stream s from to o h = each_in s from to o (leb-true _ _ h)

-- ---- the two ways of the code

module _ (s : Stream) (from to : ℕ) (o : from ≤ to) (three : to ≤ (from / s.term + 3) * s.term) where
  pub whole-answer : all_reach s from to ≡ true → (by_parts s from to ≡ partitioned s from to) × (to ≡ partitioned_end s from to)
  unfolding partitioned partitioned_end
  whole-answer h = (sym (rw h), sym (rw h))

  pub short-answer : all_reach s from to ≡ false
      → (by_parts s from (end_of from (between s from to)) ≡ partitioned s from to) × (end_of from (between s from to) ≡ partitioned_end s from to)
  unfolding partitioned partitioned_end
  short-answer h = (short s from to o three ∙ sym (rw h), sym (rw h))

  -- the totals and the end stay below the second position
  pub end_low : partitioned_end s from to ≤ to
  end_low = omega (arith, end-in s from to o three, end-within (to - from) s to from o)

  pub total-low : total (all_of (partitioned s from to)) ≤ to
  total-low =
      let e = ap (λ (x : Partitions). total (all_of x)) (each_in s from to o three) ∙ ap (λ (x : Sums). total x) (all_in s.term (between s from to)) in
      omega (arith, e, adds-up s from to, end-within (to - from) s to from o)

-- the beginnings of the three terms, and of the next, fit
pub terms-low : (term from t : ℕ) → t ≤ from / term + 3 → t * term ≤ from + 3 * term
terms-low term from t h =
    let g : t * term ≤ (from / term + 3) * term = mul-le-mul h (le_refl term) in
    let d : (from / term + 3) * term ≡ from / term * term + 3 * term = omega arith in
    omega (arith, div-add-mod' from term)
