-- The invariant of a season. The stream's log, which no program holds, is the bytes of the history's frames, then zeros (Keeping); the
-- three partitions show its three terms from the first one not cleared on (Window); a partition is marked where the term it shows is
-- not begun.
use mathlib.Core.Path.{◌≡◌, refl, sym, ap, ◌∙◌}
use mathlib.Core.Bool.{Bool, true, false, cond}
use Prim.Native.Nat.{ℕ, ◌+◌, ◌-◌, ◌*◌, ◌%◌, ◌≤◌, ◌<◌}
use native.Mathlib.Nat.{mul-le-mul_right}
use mathlib.Core.List.{List}
use native.Mathlib.Omega.{arith}
use borrow.Author.Tests.{lt-ltb, le-ltb}
use lib.Dec.{ltb}
use lib.ListN.{length}
use Rattle.model.specs.declared.LogRecord.{LogRecord}
use Rattle.model.specs.declared.Claim.{Claim}
use Rattle.model.specs.declared.Reading.{Reading}
use Rattle.model.specs.Bytes.{splice, le2, le4}
use Rattle.model.specs.DataFrameHeader.{header24}
use Rattle.model.specs.LogBufferDescriptor.{with_mark, reading_of, reading, active, is_marked, is_ready, due, changed, with_tail, rotated}
use Rattle.model.specs.TermAppender.{header, padded}
use Rattle.model.specs.History.{World, Shape, Extent, Terms}
use Rattle.model.proofs.Choice.{split, same?, cond_both}
use Rattle.model.proofs.Splice.{length-splice}
use Rattle.model.proofs.Tails.{Tails, moved-reading, rotated-reading, rotated-mark, rotated-marked, rotated-long, marked-reading, marked-same, marked_other, marked-long}
use Rattle.model.proofs.Window.{Window, laid}
use Rattle.model.proofs.Keeping.{Holds}

-- the marks, by the terms told
pub record Marks (r : LogRecord) (s : Terms) : Type 0 where
  pub three : length r.is_cleared ≡ 3
  pub turns : (reading r).count ≡ s.turns
  pub low : s.cleared ≤ s.turns - 1
  pub high : s.turns ≤ s.cleared + 2
  pub are : (t : ℕ) → s.cleared ≤ t → t ≤ s.cleared + 2 → is_marked r (t % 3) ≡ ltb s.turns t

pub record Inv (c : Shape) (w : World) (h : List Extent) (ks : List Claim) (s : Terms) : Type 0 where
  pub tails : Tails w.record·
  pub long : length w.log ≡ 3 * c.term
  pub all : List ℕ
  pub holds : Holds c (reading w.record·) all h ks
  pub window : Window c.term w.log all s.cleared
  pub marks : Marks w.record· s

pub clash· {ℓ} : {X : Type ℓ} (b : Bool) → b ≡ true → b ≡ false → X
clash· b e f = absurd (let z : true ≡ false = sym e ∙ f in let y : ◌≡◌ {A = ℕ} 0 1 = cc in omega arith)

-- a partition lies in the log
pub inside : (T k n : ℕ) → n ≡ 3 * T → k < 3 → k * T + T ≤ n
inside T k n e h = omega (arith, mul-le-mul_right T h)

-- ---- the padding of a trip

header-long : (v : Reading) (o n fl ty : ℕ) → length (header v o n fl ty) ≡ 24
unfolding header header24 le4 le2
header-long v o n fl ty = refl

pub header-24 : (v : Reading) (o n fl ty : ℕ) → length (header v o n fl ty) ≡ 24
header-24 v o n fl ty = header-long v o n fl ty

module _ (v : Reading) (log all : List ℕ) (low t : ℕ) (p : low ≤ t) (q : t ≤ low + 2) (even : v.term % 32 ≡ 0) (whole : v.offset % 32 ≡ 0)
    (a : t % 3 * v.term + v.term ≤ length log) (b : t * v.term + v.term ≤ length all) where
  pub pad-window : Window v.term log all low → Window v.term (padded v log (t % 3 * v.term)) (padded v all (t * v.term)) low
  unfolding padded
  pad-window w =
      cond_both (λ (x y : List ℕ). Window v.term x y low) (ltb v.offset v.term) (ltb v.offset v.term) _ log _ all refl
      (λ e. let l : v.offset < v.term = lt e in
      laid v.term log all v.offset (header v v.offset (v.term - v.offset) 192 0) (omega (arith, header-24 v v.offset (v.term - v.offset) 192 0)) low t p q (omega arith) (omega arith) w)
      (λ e. w)
    where
      lt : ltb v.offset v.term ≡ true → v.offset < v.term
      lt e = split v.term v.offset (λ l. clash· (ltb v.offset v.term) e (le-ltb v.offset v.term l)) (λ l. l)

  pub pad-long : length (padded v log (t % 3 * v.term)) ≡ length log
  unfolding padded
  pad-long =
      go (ltb v.offset v.term) refl
    where
      go : (x : Bool) → ltb v.offset v.term ≡ x
          → length (cond x (splice log (t % 3 * v.term + v.offset) (header v v.offset (v.term - v.offset) 192 0)) log) ≡ length log
      go true e =
          let l : v.offset < v.term = split v.term v.offset (λ l. clash· (ltb v.offset v.term) e (le-ltb v.offset v.term l)) (λ l. l) in
          length-splice log (t % 3 * v.term + v.offset) (header v v.offset (v.term - v.offset) 192 0) (omega (arith, header-24 v v.offset (v.term - v.offset) 192 0))
      go false e = refl

-- ---- the marks through the calls

pub ready-is : (r : LogRecord) → is_ready r ≡ is_marked r (due (reading r).count)
unfolding reading_of
ready-is r = refl

pub active-is : (r : LogRecord) → active r ≡ (reading r).count % 3
unfolding reading_of
active-is r = refl

module _ (r : LogRecord) (s : Terms) (m : Marks r s) (t : Tails r) where
  -- the tail moved
  pub moved-kept : (o : ℕ) → o < 4294967296 → Marks (with_tail r (active r) (reading r).id o) s
  unfolding with_tail changed
  moved-kept o l =
      record {
        three = m.three;
        turns = ap (λ (v : Reading). v.count) (moved-reading r t o l) ∙ m.turns;
        low = m.low;
        high = m.high;
        are = m.are;
      }

  -- a partition that is ready is that of a term in the window
  pub ready-low : is_ready r ≡ true → s.turns ≤ s.cleared + 1
  ready-low e =
      split s.turns (s.cleared + 1) (λ l. l)
      (λ (l : s.cleared + 1 < s.turns).
      let d : s.turns ≡ s.cleared + 2 = omega (arith, m.high) in
      let k : due (reading r).count ≡ s.cleared % 3 = ap due (m.turns ∙ d) ∙ omega arith in
      let f : is_ready r ≡ false = ready-is r ∙ ap (is_marked r) k ∙ m.are s.cleared (omega arith) (omega arith) ∙ le-ltb s.turns s.cleared (omega arith) in
      clash· (is_ready r) e f)

  -- rotated
  module _ (below : (reading r).count < 2147483647) (ready : s.turns ≤ s.cleared + 1) where
    abbrev s' : Terms
    s' = record { turns = s.turns + 1; cleared = s.cleared }

    over-marks : (u : ℕ) → s.cleared ≤ u → u ≤ s.cleared + 2 → is_marked (rotated r (reading r).count (reading r).id) (u % 3) ≡ ltb (s.turns + 1) u
    over-marks u a b =
        same? u (s.turns + 1)
        (λ (e : u ≡ s.turns + 1).
        let k : u % 3 ≡ due (reading r).count = ap (λ (n : ℕ). n % 3) (e ∙ ap (λ (n : ℕ). n + 1) (sym m.turns)) in
        ap (is_marked (rotated r (reading r).count (reading r).id)) k ∙ rotated-marked r t below m.three ∙ sym (le-ltb (s.turns + 1) u (omega arith)))
        (λ (e : ¬ (u ≡ s.turns + 1)).
        let k : ¬ (u % 3 ≡ due (reading r).count) = λ z. e (by_three u s.turns s.cleared a b m.low ready (z ∙ ap due m.turns)) in
        rotated-mark r t below (u % 3) k ∙ m.are u a b ∙ next-same s.turns u e)
      where
        by_three : (u n l : ℕ) → l ≤ u → u ≤ l + 2 → l ≤ n - 1 → n ≤ l + 1 → u % 3 ≡ (n + 1) % 3 → u ≡ n + 1
        by_three u n l a b c d e = omega arith

        next-same : (n u : ℕ) → ¬ (u ≡ n + 1) → ltb n u ≡ ltb (n + 1) u
        next-same n u d = split u n (λ l. le-ltb n u l ∙ sym (le-ltb (n + 1) u (omega arith))) (λ l. lt-ltb n u l ∙ sym (lt-ltb (n + 1) u (omega arith)))

    pub over-kept : Marks (rotated r (reading r).count (reading r).id) s'
    over-kept =
        record {
          three = rotated-long r t below ∙ m.three;
          turns = ap (λ (v : Reading). v.count) (rotated-reading r t below) ∙ ap (λ (n : ℕ). n + 1) m.turns;
          low = omega (arith, m.low);
          high = omega arith;
          are = over-marks;
        }

  -- The partition due next cleared. What was shown there before is a term cleared now, or one not begun.
  abbrev cleared' : Terms
  cleared' = record { turns = s.turns; cleared = s.turns - 1 }

  clear-marks : (u : ℕ) → s.turns - 1 ≤ u → u ≤ s.turns - 1 + 2 → is_marked (with_mark r (due s.turns) true) (u % 3) ≡ ltb s.turns u
  clear-marks u a b =
      same? (u % 3) (due s.turns)
      (λ (e : u % 3 ≡ due s.turns).
      ap (is_marked (with_mark r (due s.turns) true)) e ∙ marked-same r t (due s.turns) true (omega (arith, m.three)) ∙ sym (lt-ltb s.turns u (first u s.turns a b e)))
      (λ (e : ¬ (u % 3 ≡ due s.turns)).
      marked_other r t (due s.turns) true (u % 3) e ∙ m.are u (omega (arith, m.low)) (top u s.turns s.cleared a b m.low m.high e))
    where
      first : (u n : ℕ) → n - 1 ≤ u → u ≤ n - 1 + 2 → u % 3 ≡ (n + 1) % 3 → n < u
      first u n a b e = omega arith

      top : (u n l : ℕ) → n - 1 ≤ u → u ≤ n - 1 + 2 → l ≤ n - 1 → n ≤ l + 2 → ¬ (u % 3 ≡ (n + 1) % 3) → u ≤ l + 2
      top u n l a b c d e = split u (l + 2) (λ q. q) (λ (q : l + 2 < u). absurd (e (omega arith)))

  pub clear_kept : Marks (with_mark r (due s.turns) true) cleared'
  clear_kept =
      record {
        three = marked-long r t (due s.turns) true ∙ m.three;
        turns = ap (λ (v : Reading). v.count) (marked-reading r t (due s.turns) true) ∙ m.turns;
        low = omega arith;
        high = omega arith;
        are = clear-marks;
      }
