-- One step of the walk: what is known of a frame that it passes, and of a walk with any fuel.
use Rattle.std.proofs.Common.{◌≡◌, ℕ, zero, suc, ◌+◌, ◌-◌, ◌%◌, ◌<◌, ◌≤◌, Bool, true, false, cond, ◌&&◌, ◌||◌, eqb, ltb, leb, List, [], ◌∷◌, sym, refl, ap, ◌∙◌, ap₂, arith, le-ltb, lt-ltb, eq-eqb, ne_eqb, eqb-true, le-leb, leb-false, leb-true}
use borrow.Author.Tests.{lt-leb, eqb-false}
use Rattle.model.specs.declared.Frame.{Frame}
use Rattle.model.specs.declared.Frame.TheVariants.{Absent, Unsound, Padding, Data}
use Rattle.model.specs.FrameDescriptor.{align, is_unsound}
use Rattle.model.proofs.FrameLaws.{Lies, lies, is_frame, length_of}
use Rattle.model.proofs.Both.{and-true, both_true, test}
use Rattle.tally.specs.declared.step.Met.{Met}
use Rattle.tally.specs.Walk.{Stream, frame_in, seen, own_id, size, met, met_of, Passed, walked}
use Rattle.tally.specs.Within.{met_by}

-- what a padding or a data frame takes
pub size_is : (x : Frame) → is_frame x ≡ true → size x ≡ align (length_of x)
size_is Absent h = refl
size_is (Unsound n) h = refl
size_is (Padding n) h = refl
size_is (Data n) h = refl

-- what is left of a frame by the walk's tests: before the end, and of any but an unsound one, its own id and not past the end
abbrev kept : Frame → Bool → Bool → Frame
kept x l b = cond (l && (is_unsound x || b)) x Absent

kept_by : (x : Frame) (l b : Bool) → (size (kept x l b) ≡ 0 → ⊥) → (l ≡ true) × ((b ≡ true) × (is_frame x ≡ true))
kept_by x false b h = absurd (h refl)
kept_by Absent true true h = absurd (h refl)
kept_by Absent true false h = absurd (h refl)
kept_by (Unsound n) true b h = absurd (h refl)
kept_by (Padding n) true true h = (refl, (refl, refl))
kept_by (Padding n) true false h = absurd (h refl)
kept_by (Data n) true true h = (refl, (refl, refl))
kept_by (Data n) true false h = absurd (h refl)

kept-yes : (x : Frame) (l b : Bool) → l ≡ true → b ≡ true → kept x l b ≡ x
kept-yes Absent l b e f = rw (e, f)
kept-yes (Unsound n) l b e f = rw e
kept-yes (Padding n) l b e f = rw (e, f)
kept-yes (Data n) l b e f = rw (e, f)

kept-none : (x : Frame) (l b : Bool) → l ≡ true → is_frame x ≡ false → x ≡ kept x l b
kept-none Absent l true e f = rw e
kept-none Absent l false e f = rw e
kept-none (Unsound n) l b e f = rw e
kept-none (Padding n) l b e f = absurd (let z : ◌≡◌ {A = ℕ} 0 1 = cc in omega arith)
kept-none (Data n) l b e f = absurd (let z : ◌≡◌ {A = ℕ} 0 1 = cc in omega arith)

kept-unsound : (x : Frame) (l b : Bool) → is_unsound (kept x l b) ≡ (l && is_unsound x)
kept-unsound x false b = refl
kept-unsound Absent true true = refl
kept-unsound Absent true false = refl
kept-unsound (Unsound n) true b = refl
kept-unsound (Padding n) true true = refl
kept-unsound (Padding n) true false = refl
kept-unsound (Data n) true true = refl
kept-unsound (Data n) true false = refl

module _ (s : Stream) (p : ℕ) where
  pub seen-lies : is_frame (seen s p) ≡ true → Lies (length_of (seen s p)) (s.term - p % s.term)
  unfolding frame_in
  seen-lies f = lies _ _ (seen s p) refl f

  pub seen-small : length_of (seen s p) < 2147483648
  seen-small = go (seen s p) refl
    where
      go : (x : Frame) → seen s p ≡ x → length_of (seen s p) < 2147483648
      go Absent e = rw e (omega arith)
      go (Unsound n) e = rw e (omega arith)
      go (Padding n) e = (seen-lies (ap is_frame e)).small
      go (Data n) e = (seen-lies (ap is_frame e)).small

  -- what a step says of the frame that it passes
  pub record Stepped (to : ℕ) : Type 0 where
    pub same : met s to p ≡ seen s p
    pub own : own_id s p ≡ true
    pub frame : is_frame (seen s p) ≡ true
    pub before : p + size (met s to p) ≤ to
    pub long : 32 ≤ length_of (met s to p)
    pub some : 32 ≤ size (met s to p)
    pub fits : length_of (met s to p) ≤ size (met s to p)
    pub small : size (met s to p) < 4294967296
    pub inside : p % s.term + size (met s to p) ≤ s.term

  pub stepped : (to : ℕ) → (size (met s to p) ≡ 0 → ⊥) → Stepped to
  unfolding met
  stepped to h =
      let x = seen s p in
      let k = kept_by x (ltb p to) (own_id s p && leb (p + size x) to) h in
      let b = and-true (own_id s p) _ k.1.0 in
      let e : met s to p ≡ x = kept-yes x (ltb p to) _ k.0 k.1.0 in
      let l = seen-lies k.1.1 in
      let z : size (met s to p) ≡ align (length_of x) = ap size e ∙ size_is x k.1.1 in
      let w : size x ≡ align (length_of x) = size_is x k.1.1 in
      let n : length_of (met s to p) ≡ length_of x = ap length_of e in
      record {
        same = e;
        own = b.0;
        frame = k.1.1;
        before = omega (arith, leb-true (p + size x) to b.1);
        long = omega (arith, l.header);
        some = omega (arith, l.header);
        fits = omega (arith, l.header);
        small = omega (arith, l.small);
        inside = omega (arith, l.inside, l.header);
      }

  -- at the end nothing is looked at
  pub met-end : (to : ℕ) → to ≤ p → Absent ≡ met s to p
  unfolding met
  met-end to h = rw (le-ltb p to h)

  -- before it, a frame with its own id that does not pass `to` is met
  pub met-frame : (to : ℕ) → p < to → own_id s p ≡ true → p + size (seen s p) ≤ to → seen s p ≡ met s to p
  unfolding met
  met-frame to l o h = sym (kept-yes (seen s p) (ltb p to) _ (lt-ltb p to l) (both_true o (le-leb (p + size (seen s p)) to h)))

  -- and else nothing is
  pub met-none : (to : ℕ) → p < to → size (seen s p) ≡ 0 → seen s p ≡ met s to p
  unfolding met
  met-none to l z =
      kept-none (seen s p) (ltb p to) _ (lt-ltb p to l)
      (test (is_frame (seen s p)) (λ f. absurd (omega (arith, size_is (seen s p) f, (seen-lies f).header))) (λ f. f))

  -- the same by the bytes that are left
  pub met-left : (to : ℕ) → p < to → (x : Frame) (own : Bool) → x ≡ seen s p → own ≡ own_id s p → met_by x own (to - p) ≡ met_of s to p
  unfolding met
  met-left to l x own ex eo =
      ap₂ (λ (y : Frame) (b : Bool). met_by y b (to - p)) ex eo
      ∙ ap₂ (λ (t b : Bool). told (cond (t && (is_unsound (seen s p) || (own_id s p && b))) (seen s p) Absent)) (sym (lt-ltb p to l)) (left (size (seen s p)))
    where
      told : Frame → Met
      told y = record { frame = y; size = size y }

      left : (n : ℕ) → leb n (to - p) ≡ leb (p + n) to
      left n =
          test (leb n (to - p))
          (λ h. let k = leb-true n (to - p) h in h ∙ sym (le-leb (p + n) to (omega arith)))
          (λ h. let k = leb-false n (to - p) h in h ∙ sym (lt-leb (p + n) to (omega arith)))

  -- it meets an unsound frame wherever it looks at one
  pub met-unsound : (to : ℕ) → is_unsound (met s to p) ≡ (ltb p to && is_unsound (seen s p))
  unfolding met
  met-unsound to = kept-unsound (seen s p) (ltb p to) (own_id s p && leb (p + size (seen s p)) to)

  pub no_fuel : (to : ℕ) → walked zero s to p ≡ []
  unfolding walked
  no_fuel to = refl

  -- a walk stops, whatever its fuel, where nothing is met
  pub stops : (fuel to : ℕ) → size (met s to p) ≡ 0 → walked fuel s to p ≡ []
  unfolding walked
  stops zero to h = refl
  stops (suc fuel) to h = rw (eq-eqb (size (met s to p)) 0 h)

  pub goes : (fuel to : ℕ) → (size (met s to p) ≡ 0 → ⊥)
      → walked (suc fuel) s to p ≡ (record { at = p; frame = met s to p } ∷ walked fuel s to (p + size (met s to p)))
  unfolding walked
  goes fuel to h = rw (ne_eqb (size (met s to p)) 0 h)

-- nothing is met at the end
pub at-end : (s : Stream) (to p : ℕ) → to ≤ p → size (met s to p) ≡ 0
at-end s to p h = sym (ap size (met-end s p to h))

-- with fuel enough, more makes no difference
pub enough : (f g : ℕ) (s : Stream) (to p : ℕ) → to - p ≤ f → to - p ≤ g → walked f s to p ≡ walked g s to p
enough zero g s to p hf hg = let z = at-end s to p (omega arith) in stops s p zero to z ∙ sym (stops s p g to z)
enough (suc f) zero s to p hf hg = let z = at-end s to p (omega arith) in stops s p (suc f) to z ∙ sym (stops s p zero to z)
enough (suc f) (suc g) s to p hf hg =
    test (eqb (size (met s to p)) 0)
    (λ e. let z = eqb-true (size (met s to p)) 0 e in stops s p (suc f) to z ∙ sym (stops s p (suc g) to z))
    (λ e.
    let n = eqb-false (size (met s to p)) 0 e in
    let k = stepped s p to n in
    goes s p f to n
    ∙ ap (λ (l : List Passed). record { at = p; frame = met s to p } ∷ l) (enough f g s to (p + size (met s to p)) (omega (arith, k.some)) (omega (arith, k.some)))
    ∙ sym (goes s p g to n))
