-- `scan_for_availability`, turn by turn. `Availing` is what its loop keeps, with the fuel hidden.
use Rattle.std.specs.Prelude.{Result, Ok, Err, ℤ}
use Rattle.model.specs.declared.Error.{Error}
use mathlib.Core.Path.{◌≡◌, refl, sym, ap, ◌∙◌}
use mathlib.Core.Logic.{◌⊎◌, inl, inr, ⊎_elim}
use mathlib.Core.Bool.{Bool, true, false, cond}
use mathlib.Core.List.{List}
use Prim.Native.Nat.{ℕ, zero, suc, ◌+◌, ◌-◌, ◌*◌, ◌≤◌, ◌<◌}
use native.Mathlib.Omega.{arith}
use borrow.Author.Tests.{le-leb, lt-leb, lt-ltb, le-ltb}
use lib.ListN.{drop}
use lib.IntN.{pos}
use Rattle.model.specs.declared.Frame.{Frame}
use Rattle.model.specs.declared.Frame.TheVariants.{Absent, Unsound}
use Rattle.model.specs.FrameDescriptor.{frame_at, is_unsound, unsound_frame, unsound_frame_at}
use Rattle.model.specs.TermScan.{Available, counted, available_over, available_from, availability_by}
use Rattle.model.proofs.FrameLaws.{unsound-refusal}

-- the two numbers as one
abbrev pub outcome : ℕ → ℕ → Result ℤ Error
outcome available padding = Ok (pos (padding * 4294967296 + available))

module _ (log : List ℕ) (base term at most : ℕ) where
  abbrev seen : ℕ → Frame
  seen available = frame_at (drop (base + (at + available)) log) (term - (at + available))

  abbrev whole : Available
  whole = available_from term log base term at most 0 0

  -- whether the first frame is unsound
  abbrev first : Bool
  first = is_unsound (frame_at (drop (base + at) log) (term - at))

  abbrev answer : Result ℤ Error
  answer = availability_by whole (cond first (Err (unsound_frame_at log base at)) (Ok tt))

  pub record Availing (available padding : ℕ) : Type 0 where
    pub fuel : ℕ
    pub enough : term - (at + available) ≤ fuel
    pub inside : at + available < term
    pub bounded : padding ≤ term
    pub same : whole ≡ available_from fuel log base term at most available padding
    pub begun : (available ≡ 0) ⊎ (first ≡ false)

  pub available-start : at < term → Availing 0 0
  available-start h = record { fuel = term; enough = omega arith; inside = omega arith; bounded = omega arith; same = refl; begun = inl refl }

  seen_first : (available : ℕ) → available ≡ 0 → is_unsound (seen available) ≡ first
  seen_first available p =
      let q : at + available ≡ at = omega arith in
      ap (λ (o : ℕ). is_unsound (frame_at (drop (base + o) log) (term - o))) q

  first-seen : (available : ℕ) (x : Frame) → (available ≡ 0) ⊎ (first ≡ false) → seen available ≡ x → is_unsound x ≡ false → first ≡ false
  first-seen available x (inr f) e h = f
  first-seen available x (inl p) e h = sym (seen_first available p) ∙ ap is_unsound e ∙ h

  comes : (available padding : ℕ) → whole ≡ record { available = available; padding = padding } → first ≡ false → outcome available padding ≡ answer
  comes available padding e f =
      ap (λ (w : Available). availability_by w (Ok tt)) (sym e) ∙ ap (λ (b : Bool). availability_by whole (cond b (Err (unsound_frame_at log base at)) (Ok tt))) (sym f)

  turn : (f available padding : ℕ) (g : Availing available padding) (x : Frame) → g.fuel ≡ f → seen available ≡ x
      → whole ≡ available_over x available padding most (λ a p. available_from (f - 1) log base term at most a p)
  unfolding available_from
  turn zero available padding g x ef e = absurd (omega (arith, g.enough, g.inside))
  turn (suc f) available padding g x ef e =
      let q : suc f - 1 ≡ f = omega arith in
      g.same ∙ ap (λ (y : ℕ). available_from y log base term at most available padding) ef
      ∙ ap (λ (y : Frame). available_over y available padding most (λ a p. available_from f log base term at most a p)) e
      ∙ ap (λ (y : ℕ). available_over x available padding most (λ a p. available_from y log base term at most a p)) (sym q)

  pub available-absent : (available padding : ℕ) → Availing available padding → seen available ≡ Absent → outcome available padding ≡ answer
  available-absent available padding g e = comes available padding (turn g.fuel available padding g Absent refl e) (first-seen available Absent g.begun e refl)

  pub available-unsound : (available padding m : ℕ) → Availing available padding → seen available ≡ Unsound m → (available ≡ 0 → ⊥) → outcome available padding ≡ answer
  available-unsound available padding m g e n =
      comes available padding (turn g.fuel available padding g (Unsound m) refl e) (⊎_elim (λ (p : available ≡ 0). absurd (n p)) (λ (f : first ≡ false). f) g.begun)

  pub available-first : (available m : ℕ) → available ≡ 0 → seen available ≡ Unsound m → Err (unsound_frame m at) ≡ answer
  available-first available m p e =
      let f : first ≡ true = sym (seen_first available p) ∙ ap is_unsound e in
      let o : at + available ≡ at = omega arith in
      let q : frame_at (drop (base + at) log) (term - at) ≡ Unsound m = ap (λ (x : ℕ). frame_at (drop (base + x) log) (term - x)) (sym o) ∙ e in
      ap Err (unsound-refusal log base term at m q) ∙ sym (ap (λ (b : Bool). availability_by whole (cond b (Err (unsound_frame_at log base at)) (Ok tt))) f)

  -- a frame of which `size` bytes count, with `pad` of padding behind them
  module _ (available padding size pad : ℕ) (g : Availing available padding) (x : Frame) (e : seen available ≡ x) (u : is_unsound x ≡ false)
      (o : (go : ℕ → ℕ → Available) → available_over x available padding most go ≡ counted available size pad most go) where
    counts : whole ≡ counted available size pad most (λ a p. available_from (g.fuel - 1) log base term at most a p)
    counts = turn g.fuel available padding g x refl e ∙ o (λ a p. available_from (g.fuel - 1) log base term at most a p)

    -- past the maximum: it does not count
    pub over-most : most < available + size → outcome available 0 ≡ answer
    over-most h = comes available 0 (counts ∙ rw (lt-ltb most (available + size) h)) (first-seen available x g.begun e u)

    -- it fills the maximum
    pub fills : available + size ≤ most → most ≤ available + size + pad → outcome (available + size) pad ≡ answer
    fills h k = comes (available + size) pad (counts ∙ rw (le-ltb most (available + size) h, le-leb most (available + size + pad) k)) (first-seen available x g.begun e u)

    pub goes_on : most ≤ term - at → 0 < size → pad ≤ term → available + size + pad < most → Availing (available + size) pad
    goes_on m s b k =
        let h : available + size ≤ most = omega arith in
        record {
          fuel = g.fuel - 1;
          enough = omega (arith, g.enough, g.inside);
          inside = omega arith;
          bounded = b;
          same = counts ∙ rw (le-ltb most (available + size) h, lt-leb most (available + size + pad) k);
          begun = inr (first-seen available x g.begun e u);
        }
