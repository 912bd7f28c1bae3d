-- `scan_for_gap`, turn by turn: the walk to the first free place (`Rebuilding`), and the gap's length (`Measuring`).
use Rattle.std.specs.Prelude.{Result, Ok, Err}
use Rattle.model.specs.declared.Error.{Error}
use mathlib.Core.Path.{◌≡◌, refl, sym, ap, ◌∙◌}
use mathlib.Core.Logic.{◌⊎◌, inl, inr, ⊎_elim}
use mathlib.Core.Bool.{Bool, true, false, cond, ◌||◌}
use mathlib.Core.List.{List}
use Prim.Native.Nat.{ℕ, zero, suc, ◌+◌, ◌-◌, ◌%◌, ◌≤◌, ◌<◌}
use native.Mathlib.Omega.{arith}
use borrow.Author.Tests.{le-leb, lt-leb, eq-eqb, ne_eqb}
use lib.Dec.{leb}
use lib.ListN.{length, drop}
use lib.IntN.{ℤ}
use Rattle.model.specs.declared.Frame.{Frame}
use Rattle.model.specs.declared.Frame.TheVariants.{Absent, Unsound, Padding, Data}
use Rattle.model.specs.declared.GapScanned.{GapScanned}
use Rattle.model.specs.declared.GapScanned.TheVariants.{Gap, NoGap}
use Rattle.model.specs.Bytes.{u32}
use Rattle.model.specs.FrameDescriptor.{align, is_writing, length_at, frame_at, is_unsound, unsound_frame, unsound_frame_at}
use Rattle.model.specs.TermScan.{Rebuilt, gap_over, rebuild, gap_length, gap_by}
use Rattle.model.proofs.FrameLaws.{Lies, lies, is_frame, length_of, unsound-refusal}

-- ---- the gap's length

module _ (log : List ℕ) (base term high at : ℕ) where
  pub record Measuring (length : ℕ) : Type 0 where
    pub fuel : ℕ
    pub here : ℕ
    pub next : here + 32 ≡ at + length
    pub some : 32 ≤ length
    pub aligned : length % 32 ≡ 0
    pub enough : high - (at + length) ≤ fuel
    pub same : gap_length term log base high at + 32 ≡ length + gap_length fuel log base high here

  pub measure-start : high ≤ term → Measuring 32
  measure-start h =
      record { fuel = term; here = at; next = refl; some = omega arith; aligned = refl; enough = omega arith; same = omega arith }

  mark-from : (fuel here : ℕ) → high ≤ here + 32 → gap_length fuel log base high here ≡ 32
  unfolding gap_length
  mark-from zero here h = refl
  mark-from (suc fuel) here h = rw (le-leb high (here + 32) h)

  either : (b : Bool) (n : ℕ) → cond b n n ≡ n
  either true n = refl
  either false n = refl

  word-from : (fuel here : ℕ) → (u32 (drop (base + (here + 32)) log) ≡ 0 → ⊥) → gap_length fuel log base high here ≡ 32
  unfolding gap_length
  word-from zero here h = refl
  word-from (suc fuel) here h = rw (ne_eqb (u32 (drop (base + (here + 32)) log)) 0 h) (either (leb high (here + 32)) 32)

  on-from : (fuel here : ℕ) → here + 32 < high → u32 (drop (base + (here + 32)) log) ≡ 0 → gap_length (suc fuel) log base high here ≡ 32 + gap_length fuel log base high (here + 32)
  unfolding gap_length
  on-from fuel here h e = rw (lt-leb high (here + 32) h, eq-eqb (u32 (drop (base + (here + 32)) log)) 0 e)

  -- at or past the high mark
  pub measure-mark : (length : ℕ) → Measuring length → high ≤ at + length → length ≡ gap_length term log base high at
  measure-mark length m h = omega (arith, m.same, mark-from m.fuel m.here (omega (arith, m.next)))

  -- a word that is not 0
  pub measure-word : (length : ℕ) → Measuring length → (u32 (drop (base + (at + length)) log) ≡ 0 → ⊥) → length ≡ gap_length term log base high at
  measure-word length m h =
      omega (arith, m.same, word-from m.fuel m.here (λ q. h (ap (λ (x : ℕ). u32 (drop (base + x) log)) (sym m.next) ∙ q)))

  measure-from : (f length : ℕ) (m : Measuring length) → m.fuel ≡ f → at + length < high → u32 (drop (base + (at + length)) log) ≡ 0 → Measuring (length + 32)
  measure-from zero length m ef h e = absurd (omega (arith, m.enough))
  measure-from (suc f) length m ef h e =
      let w : u32 (drop (base + (m.here + 32)) log) ≡ 0 = ap (λ (x : ℕ). u32 (drop (base + x) log)) m.next ∙ e in
      let q = ap (λ (y : ℕ). gap_length y log base high m.here) ef ∙ on-from f m.here (omega (arith, m.next)) w in
      record {
        fuel = f;
        here = m.here + 32;
        next = omega (arith, m.next);
        some = omega arith;
        aligned = omega (arith, m.aligned);
        enough = omega (arith, m.enough);
        same = omega (arith, m.same, q);
      }

  pub measure-on : (length : ℕ) → Measuring length → at + length < high → u32 (drop (base + (at + length)) log) ≡ 0 → Measuring (length + 32)
  measure-on length m h e = measure-from m.fuel length m refl h e

-- ---- the walk

-- what is found where the walk came to w
abbrev pub gap_found : ℤ → List ℕ → ℕ → ℕ → ℕ → Rebuilt → Result GapScanned Error
gap_found id log base term high w = cond (w.stopped || leb high w.at) (Ok (NoGap w.at)) (Ok (Gap id w.at (gap_length term log base high w.at) (is_writing (length_at (drop (base + w.at) log)))))

module _ (log : List ℕ) (base term high at : ℕ) where
  abbrev seen : ℕ → Frame
  seen offset = frame_at (drop (base + offset) log) (term - offset)

  -- whether the first frame is unsound
  abbrev first : Bool
  first = is_unsound (seen at)

  abbrev answer : ℤ → Result GapScanned Error
  answer id = gap_by (gap_found id log base term high (rebuild term log base term high at)) (cond first (Err (unsound_frame_at log base at)) (Ok tt))

  pub record Rebuilding (offset : ℕ) : Type 0 where
    pub fuel : ℕ
    pub enough : term - offset ≤ fuel
    pub later : at ≤ offset
    pub inside : offset < term
    pub aligned : offset % 32 ≡ 0
    pub same : rebuild term log base term high at ≡ rebuild fuel log base term high offset
    pub begun : (offset ≡ at) ⊎ (first ≡ false)

  pub gap-start : at < term → at % 32 ≡ 0 → Rebuilding at
  gap-start h a = record { fuel = term; enough = omega arith; later = omega arith; inside = h; aligned = a; same = refl; begun = inl refl }

  first-seen : (offset : ℕ) (x : Frame) → (offset ≡ at) ⊎ (first ≡ false) → seen offset ≡ x → is_unsound x ≡ false → first ≡ false
  first-seen offset x (inr f) e h = f
  first-seen offset x (inl p) e h = ap (λ (o : ℕ). is_unsound (seen o)) (sym p) ∙ ap is_unsound e ∙ h

  -- it comes to w, and the first frame was not unsound
  comes : (id : ℤ) (w : Rebuilt) → rebuild term log base term high at ≡ w → first ≡ false → gap_found id log base term high w ≡ answer id
  comes id w e f =
      ap (gap_found id log base term high) (sym e) ∙ ap (λ (b : Bool). gap_by (gap_found id log base term high (rebuild term log base term high at)) (cond b (Err (unsound_frame_at log base at)) (Ok tt))) (sym f)

  -- one frame, with fuel for it
  turn : (f offset : ℕ) (g : Rebuilding offset) (x : Frame) → g.fuel ≡ f → seen offset ≡ x
      → rebuild term log base term high at ≡ gap_over x offset high (λ a. rebuild (f - 1) log base term high a)
  unfolding rebuild
  turn zero offset g x ef e = absurd (omega (arith, g.enough, g.inside))
  turn (suc f) offset g x ef e =
      let q : suc f - 1 ≡ f = omega arith in
      g.same ∙ ap (λ (y : ℕ). rebuild y log base term high offset) ef ∙ ap (λ (y : Frame). gap_over y offset high (λ a. rebuild f log base term high a)) e
      ∙ ap (λ (y : ℕ). gap_over x offset high (λ a. rebuild y log base term high a)) (sym q)

  -- a free place, at or past the mark, or before it
  pub gap-none : (id : ℤ) (offset : ℕ) → Rebuilding offset → seen offset ≡ Absent → high ≤ offset → Ok (NoGap offset) ≡ answer id
  gap-none id offset g e h =
      let w : Rebuilt = record { at = offset; stopped = false } in
      let q : Ok (NoGap offset) ≡ gap_found id log base term high w = rw (le-leb high offset h) in
      q ∙ comes id w (turn g.fuel offset g Absent refl e) (first-seen offset Absent g.begun e refl)

  pub gap_here : (id : ℤ) (offset : ℕ) → Rebuilding offset → seen offset ≡ Absent → offset < high → Ok (Gap id offset (gap_length term log base high offset) (is_writing (length_at (drop (base + offset) log)))) ≡ answer id
  gap_here id offset g e h =
      let w : Rebuilt = record { at = offset; stopped = false } in
      let q : Ok (Gap id offset (gap_length term log base high offset) (is_writing (length_at (drop (base + offset) log)))) ≡ gap_found id log base term high w = rw (lt-leb high offset h) in
      q ∙ comes id w (turn g.fuel offset g Absent refl e) (first-seen offset Absent g.begun e refl)

  -- an unsound frame, later or first
  pub gap-unsound : (id : ℤ) (offset m : ℕ) → Rebuilding offset → seen offset ≡ Unsound m → (offset ≡ at → ⊥) → Ok (NoGap offset) ≡ answer id
  gap-unsound id offset m g e n =
      comes id (record { at = offset; stopped = true }) (turn g.fuel offset g (Unsound m) refl e)
      (⊎_elim (λ (p : offset ≡ at). absurd (n p)) (λ (f : first ≡ false). f) g.begun)

  pub gap-first : (id : ℤ) (offset m : ℕ) → offset ≡ at → seen offset ≡ Unsound m → Err (unsound_frame m at) ≡ answer id
  gap-first id offset m p e =
      let q : seen at ≡ Unsound m = ap seen (sym p) ∙ e in
      let f : first ≡ true = ap is_unsound q in
      ap Err (unsound-refusal log base term at m q) ∙ sym (ap (λ (b : Bool). gap_by (gap_found id log base term high (rebuild term log base term high at)) (cond b (Err (unsound_frame_at log base at)) (Ok tt))) f)

  over-frame : (x : Frame) (offset : ℕ) (go : ℕ → Rebuilt) → is_frame x ≡ true
      → gap_over x offset high go ≡ cond (leb high (offset + align (length_of x))) (record { at = offset + align (length_of x); stopped = false }) (go (offset + align (length_of x)))
  over-frame Absent offset go h = absurd (let z : ◌≡◌ {A = ℕ} 0 1 = cc in omega arith)
  over-frame (Unsound n) offset go h = absurd (let z : ◌≡◌ {A = ℕ} 0 1 = cc in omega arith)
  over-frame (Padding n) offset go h = refl
  over-frame (Data n) offset go h = refl

  not-unsound : (x : Frame) → is_frame x ≡ true → is_unsound x ≡ false
  not-unsound Absent h = refl
  not-unsound (Unsound n) h = absurd (let z : ◌≡◌ {A = ℕ} 0 1 = cc in omega arith)
  not-unsound (Padding n) h = refl
  not-unsound (Data n) h = refl

  -- a frame that ends at or past the mark
  pub gap-past : (id : ℤ) (offset n : ℕ) (x : Frame) → Rebuilding offset → seen offset ≡ x → is_frame x ≡ true → length_of x ≡ n → high ≤ offset + align n → Ok (NoGap (offset + align n)) ≡ answer id
  gap-past id offset n x g e f el h =
      let w : Rebuilt = record { at = offset + align n; stopped = false } in
      let q : Ok (NoGap (offset + align n)) ≡ gap_found id log base term high w = rw (le-leb high (offset + align n) h) in
      let t : cond (leb high (offset + align n)) w (rebuild (g.fuel - 1) log base term high (offset + align n)) ≡ w = rw (le-leb high (offset + align n) h) in
      q
      ∙ comes id w
      (turn g.fuel offset g x refl e ∙ over-frame x offset _ f
      ∙ ap (λ (m : ℕ). cond (leb high (offset + align m)) (record { at = offset + align m; stopped = false }) (rebuild (g.fuel - 1) log base term high (offset + align m))) el ∙ t)
      (first-seen offset x g.begun e (not-unsound x f))

  -- and one that ends before it
  pub gap-on : (offset n : ℕ) (x : Frame) → Rebuilding offset → seen offset ≡ x → is_frame x ≡ true → length_of x ≡ n → high ≤ term → offset + align n < high → Rebuilding (offset + align n)
  gap-on offset n x g e f el k h =
      let z : Lies (length_of x) (term - offset) = lies (drop (base + offset) log) (term - offset) x e f in
      let t : cond (leb high (offset + align n)) (record { at = offset + align n; stopped = false }) (rebuild (g.fuel - 1) log base term high (offset + align n))
      ≡ rebuild (g.fuel - 1) log base term high (offset + align n) = rw (lt-leb high (offset + align n) h) in
      record {
        fuel = g.fuel - 1;
        enough = omega (arith, g.enough, g.inside, z.header, el);
        later = omega (arith, g.later);
        inside = omega arith;
        aligned = omega (arith, g.aligned);
        same =
            turn g.fuel offset g x refl e ∙ over-frame x offset _ f
            ∙ ap (λ (m : ℕ). cond (leb high (offset + align m)) (record { at = offset + align m; stopped = false }) (rebuild (g.fuel - 1) log base term high (offset + align m))) el ∙ t;
        begun = inr (first-seen offset x g.begun e (not-unsound x f));
      }
