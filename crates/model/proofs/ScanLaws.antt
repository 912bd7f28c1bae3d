-- `scan`, turn by turn and row by row. `Scanning` is what its loop keeps, with the fuel hidden.
use Rattle.std.specs.Prelude.{Result, Ok, Err}
use Rattle.model.specs.declared.Error.{Error}
use mathlib.Core.Path.{◌≡◌, refl, sym, ap, ◌∙◌}
use mathlib.Core.Logic.{◌⊎◌, inl, inr, ⊎_elim}
use mathlib.Core.Bool.{Bool, true, false, cond, ◌&&◌}
use mathlib.Core.List.{List}
use Prim.Native.Nat.{ℕ, zero, suc, ◌+◌, ◌-◌, ◌≤◌, ◌<◌}
use native.Mathlib.Omega.{arith}
use borrow.Author.Tests.{le-leb, lt-leb, lt-ltb, le-ltb, eq-eqb, ne_eqb}
use lib.Dec.{eqb, leb, ltb}
use lib.ListN.{drop}
use Rattle.model.specs.declared.Frame.{Frame}
use Rattle.model.specs.declared.Frame.TheVariants.{Absent, Unsound, Padding, Data}
use Rattle.model.specs.FrameDescriptor.{align, frame_at, is_unsound, unsound_frame, unsound_frame_at}
use Rattle.model.specs.TermScan.{scan_over, scan_from, scan_by}
use Rattle.model.proofs.FrameLaws.{Lies, lies, unsound-refusal}
use Rattle.model.proofs.Both.{and-false}

module _ (log : List ℕ) (base term limit at : ℕ) where
  abbrev seen : ℕ → Frame
  seen offset = frame_at (drop (base + offset) log) (term - offset)

  -- whether the first frame is unsound
  abbrev first : Bool
  first = ltb at limit && is_unsound (seen at)

  abbrev answer : Result ℕ Error
  answer = scan_by (scan_from term log base term limit true at) (cond first (Err (unsound_frame_at log base at)) (Ok tt))

  -- the scan from here is the whole scan; it is at its first frame, or that one is not unsound
  pub record Scanning (offset : ℕ) : Type 0 where
    pub fuel : ℕ
    pub enough : limit - offset ≤ fuel
    pub later : at ≤ offset
    pub same : scan_from term log base term limit true at ≡ scan_from fuel log base term limit (eqb offset at) offset
    pub begun : (offset ≡ at) ⊎ (first ≡ false)

  pub scan-start : limit ≤ term → Scanning at
  scan-start h =
      record {
        fuel = term;
        enough = omega arith;
        later = omega arith;
        same = ap (λ (b : Bool). scan_from term log base term limit b at) (sym (eq-eqb at at refl));
        begun = inl refl;
      }

  first-seen : (offset : ℕ) (x : Frame) → (offset ≡ at) ⊎ (first ≡ false) → seen offset ≡ x → is_unsound x ≡ false → first ≡ false
  first-seen offset x (inr f) e h = f
  first-seen offset x (inl p) e h =
      let q : is_unsound (seen at) ≡ false = ap (λ (o : ℕ). is_unsound (seen o)) (sym p) ∙ ap is_unsound e ∙ h in
      rw q (and-false (ltb at limit))

  -- it comes to an offset, and the first frame was not unsound
  comes : (offset : ℕ) → scan_from term log base term limit true at ≡ offset → first ≡ false → Ok offset ≡ answer
  comes offset e f = ap Ok (sym e) ∙ ap (λ (b : Bool). scan_by (scan_from term log base term limit true at) (cond b (Err (unsound_frame_at log base at)) (Ok tt))) (sym f)

  either : (b : Bool) (n : ℕ) → cond b n n ≡ n
  either true n = refl
  either false n = refl

  -- one frame, whatever the fuel, at which the scan stays
  stays : (fuel offset : ℕ) (b : Bool) (x : Frame) → seen offset ≡ x → ((go : ℕ → ℕ) → scan_over x b offset limit go ≡ offset) → scan_from fuel log base term limit b offset ≡ offset
  unfolding scan_from
  stays zero offset b x e h = refl
  stays (suc fuel) offset b x e h = rw e (rw (h (λ a. scan_from fuel log base term limit false a)) (either (leb limit offset) offset))

  full_from : (fuel offset : ℕ) (b : Bool) → limit ≤ offset → scan_from fuel log base term limit b offset ≡ offset
  unfolding scan_from
  full_from zero offset b h = refl
  full_from (suc fuel) offset b h = rw (le-leb limit offset h)

  pub scan-full : (offset : ℕ) → Scanning offset → limit ≤ offset → Ok offset ≡ answer
  scan-full offset s h = comes offset (s.same ∙ full_from s.fuel offset (eqb offset at) h) (none s.begun)
    where
      none : (offset ≡ at) ⊎ (first ≡ false) → first ≡ false
      none (inr f) = f
      none (inl p) = rw (le-ltb at limit (omega arith))

  pub scan-absent : (offset : ℕ) → Scanning offset → seen offset ≡ Absent → Ok offset ≡ answer
  scan-absent offset s e = comes offset (s.same ∙ stays s.fuel offset (eqb offset at) Absent e (λ go. refl)) (first-seen offset Absent s.begun e refl)

  pub scan-unsound : (offset m : ℕ) → Scanning offset → seen offset ≡ Unsound m → (offset ≡ at → ⊥) → Ok offset ≡ answer
  scan-unsound offset m s e n =
      comes offset (s.same ∙ stays s.fuel offset (eqb offset at) (Unsound m) e (λ go. refl))
      (⊎_elim (λ (p : offset ≡ at). absurd (n p)) (λ (f : first ≡ false). f) s.begun)

  pub scan-first : (offset m : ℕ) → offset ≡ at → offset < limit → seen offset ≡ Unsound m → Err (unsound_frame m at) ≡ answer
  scan-first offset m p h e =
      let q : seen at ≡ Unsound m = ap seen (sym p) ∙ e in
      let f : first ≡ true = rw (lt-ltb at limit (omega arith), q) in
      ap Err (unsound-refusal log base term at m q) ∙ sym (ap (λ (b : Bool). scan_by (scan_from term log base term limit true at) (cond b (Err (unsound_frame_at log base at)) (Ok tt))) f)

  -- padding that is not the first frame
  pub scan-padding : (offset n : ℕ) → Scanning offset → seen offset ≡ Padding n → (offset ≡ at → ⊥) → Ok offset ≡ answer
  scan-padding offset n s e k =
      comes offset (s.same ∙ stays s.fuel offset (eqb offset at) (Padding n) e (λ go. rw (ne_eqb offset at k))) (first-seen offset (Padding n) s.begun e refl)

  padding-from : (fuel offset n : ℕ) → limit - offset ≤ fuel → offset < limit → offset ≡ at → seen offset ≡ Padding n
      → scan_from fuel log base term limit (eqb offset at) offset ≡ offset + align n
  unfolding scan_from
  padding-from zero offset n en h p e = absurd (omega arith)
  padding-from (suc fuel) offset n en h p e = rw (lt-leb limit offset h, e, eq-eqb offset at p)

  -- and that is
  pub scan-past : (offset n : ℕ) → Scanning offset → offset < limit → seen offset ≡ Padding n → offset ≡ at → Ok (at + align n) ≡ answer
  scan-past offset n s h e p =
      let q : offset + align n ≡ at + align n = omega arith in
      comes (at + align n) (s.same ∙ padding-from s.fuel offset n s.enough h p e ∙ q) (first-seen offset (Padding n) s.begun e refl)

  pub scan-long : (offset n : ℕ) → Scanning offset → seen offset ≡ Data n → limit < offset + align n → Ok offset ≡ answer
  scan-long offset n s e h =
      comes offset (s.same ∙ stays s.fuel offset (eqb offset at) (Data n) e (λ go. rw (lt-leb (offset + align n) limit h))) (first-seen offset (Data n) s.begun e refl)

  data-from : (fuel offset n : ℕ) (b : Bool) → offset < limit → offset + align n ≤ limit → seen offset ≡ Data n
      → scan_from (suc fuel) log base term limit b offset ≡ scan_from fuel log base term limit false (offset + align n)
  unfolding scan_from
  data-from fuel offset n b h l e = rw (lt-leb limit offset h, e, le-leb (offset + align n) limit l)

  on-from : (f offset n : ℕ) (s : Scanning offset) → s.fuel ≡ f → offset < limit → offset + align n ≤ limit → seen offset ≡ Data n → Scanning (offset + align n)
  on-from zero offset n s ef h l e = absurd (omega (arith, s.enough))
  on-from (suc f) offset n s ef h l e =
      let k : Lies n (term - offset) = lies (drop (base + offset) log) (term - offset) (Data n) e refl in
      let ne : offset + align n ≡ at → ⊥ = λ q. omega (arith, s.later, k.header) in
      record {
        fuel = f;
        enough = omega (arith, s.enough, k.header);
        later = omega (arith, s.later);
        same =
            s.same ∙ ap (λ (y : ℕ). scan_from y log base term limit (eqb offset at) offset) ef ∙ data-from f offset n (eqb offset at) h l e
            ∙ ap (λ (b : Bool). scan_from f log base term limit b (offset + align n)) (sym (ne_eqb (offset + align n) at ne));
        begun = inr (first-seen offset (Data n) s.begun e refl);
      }

  pub scan-on : (offset n : ℕ) → Scanning offset → offset < limit → offset + align n ≤ limit → seen offset ≡ Data n → Scanning (offset + align n)
  scan-on offset n s h l e = on-from s.fuel offset n s refl h l e
