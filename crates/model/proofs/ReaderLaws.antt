-- Row 1 of a walk over frames, in words, and both ways; and the walk's own answer once row 1 is met.
use Rattle.std.specs.Prelude.{Ok, Err}
use mathlib.Core.Path.{◌≡◌, refl, sym, ap, ◌∙◌}
use mathlib.Core.Bool.{Bool, true, false, cond, ◌&&◌, ◌||◌}
use mathlib.Core.List.{List}
use Prim.Native.Nat.{ℕ, ◌+◌, ◌/◌, ◌%◌, ◌≤◌}
use native.Mathlib.Omega.{arith}
use borrow.Author.Tests.{le-leb, leb-true, eqb-true, eq-eqb}
use lib.Dec.{eqb, leb}
use lib.ListN.{length}
use lib.IntN.{ℤ}
use Rattle.model.specs.declared.FramesRead.TheVariants.{Walked as AllWalked, Refused as WalkRefused}
use Rattle.model.specs.declared.Error.TheVariants.{IllegalArgument}
use Rattle.model.proofs.WalkLoop.{Came, walk_by}
use Rattle.model.specs.FrameDescriptor.{unsound_frame_at}
use Rattle.model.specs.TermReader.{walk, first_unsound, good_walk, good_control, good_handler, frames_verdict, frames_by, frames_of, frames_entries, entries_by}
use Rattle.model.proofs.Both.{and-true}

-- two tests and a third
pub and-not : (a b c : Bool) → (a && b) ≡ false → false ≡ (a && (b && c))
and-not true true c h = absurd (let x : ◌≡◌ {A = ℕ} 0 1 = cc in omega arith)
and-not true false c h = refl
and-not false b c h = refl

pub and_then : (a b c : Bool) → (a && b) ≡ true → c ≡ (a && (b && c))
and_then true true c h = refl
and_then true false c h = absurd (let x : ◌≡◌ {A = ℕ} 0 1 = cc in omega arith)
and_then false b c h = absurd (let x : ◌≡◌ {A = ℕ} 0 1 = cc in omega arith)

-- what no fact allows is false
pub never : (b : Bool) → (b ≡ true → ⊥) → false ≡ b
never false h = refl
never true h = absurd (h refl)

pub record GoodWalk (n base term end at limit slots : ℕ) : Type 0 where
  pub inside : base + term ≤ n
  pub term-high : term ≤ 1073741824
  pub term-32 : term % 32 ≡ 0
  pub end-in : end ≤ term
  pub at-32 : at % 32 ≡ 0
  pub slots-high : slots ≤ 2147483647
  pub room : limit ≤ slots / 2

module _ (n base term end at limit slots : ℕ) where
  pub good-walk-true : good_walk n base term end at limit slots ≡ true → GoodWalk n base term end at limit slots
  good-walk-true h =
      let p0 = and-true (leb (base + term) n) _ h in
      let p1 = and-true (leb term 1073741824) _ p0.1 in
      let p2 = and-true (eqb (term % 32) 0) _ p1.1 in
      let p3 = and-true (leb end term) _ p2.1 in
      let p4 = and-true (eqb (at % 32) 0) _ p3.1 in
      let p5 = and-true (leb slots 2147483647) _ p4.1 in
      record {
        inside = leb-true _ _ p0.0;
        term-high = leb-true _ _ p1.0;
        term-32 = eqb-true _ _ p2.0;
        end-in = leb-true _ _ p3.0;
        at-32 = eqb-true _ _ p4.0;
        slots-high = leb-true _ _ p5.0;
        room = leb-true _ _ p5.1;
      }

  pub not-good-walk : (GoodWalk n base term end at limit slots → ⊥) → false ≡ good_walk n base term end at limit slots
  not-good-walk h = never (good_walk n base term end at limit slots) (λ (t : good_walk n base term end at limit slots ≡ true). h (good-walk-true t))

  -- where all but the room is as it should be
  pub good-walk-by : base + term ≤ n → term ≤ 1073741824 → term % 32 ≡ 0 → end ≤ term → at % 32 ≡ 0 → slots ≤ 2147483647
      → leb limit (slots / 2) ≡ good_walk n base term end at limit slots
  good-walk-by h1 h2 h3 h4 h5 h6 = simp (le-leb _ _ h1, le-leb _ _ h2, eq-eqb _ _ h3, le-leb _ _ h4, eq-eqb _ _ h5, le-leb _ _ h6)

-- good answers are a good handler's
pub handled : (acts : List ℕ) (limit : ℕ) → good_control acts limit ≡ true → good_handler acts limit ≡ true
handled acts limit h = go (eqb (length acts) 0)
  where
    go : (b : Bool) → (b || good_control acts limit) ≡ true
    go true = refl
    go false = h

-- ---- refused by row 1, or the walk after it

module _ (log : List ℕ) (base term end at limit : ℕ) (acts : List ℕ) (slots : List ℤ) where
  pub frames-refused : (good_walk (length log) base term end at limit (length slots) && good_handler acts limit) ≡ false
      → (WalkRefused IllegalArgument ≡ frames_of log base term end at limit acts slots) × (slots ≡ frames_entries log base term end at limit acts slots)
  unfolding frames_of frames_entries frames_verdict
  frames-refused h = (rw h, rw h)

  pub frames-by : good_walk (length log) base term end at limit (length slots) ≡ true → good_handler acts limit ≡ true
      → (frames_by (walk term log base term end at limit acts) (cond (first_unsound log base term end at limit) (Err (unsound_frame_at log base at)) (Ok tt)) ≡ frames_of log base term end at limit acts slots)
      × (entries_by slots (walk term log base term end at limit acts) (cond (first_unsound log base term end at limit) (Err (unsound_frame_at log base at)) (Ok tt)) ≡ frames_entries log base term end at limit acts slots)
  unfolding frames_of frames_entries frames_verdict
  frames-by h g = (rw (h, g), rw (h, g))

  -- what a loop came to is the answer, once the first frame is judged; `moved` is the loop's own number
  pub frames-came : (out : List ℤ) (e f m moved s : ℕ) → Came log base term end at limit acts slots out (walk_by e f m s) → moved ≡ m
      → (AllWalked (walk_by e f moved s) ≡ frames_by (walk term log base term end at limit acts) (cond (first_unsound log base term end at limit) (Err (unsound_frame_at log base at)) (Ok tt)))
      × (out ≡ entries_by slots (walk term log base term end at limit acts) (cond (first_unsound log base term end at limit) (Err (unsound_frame_at log base at)) (Ok tt)))
  frames-came out e f m moved s k q = (
    ap (λ (x : ℕ). AllWalked (walk_by e f x s)) q ∙ ap AllWalked k.numbers
        ∙ ap (λ (t : Bool). frames_by (walk term log base term end at limit acts) (cond t (Err (unsound_frame_at log base at)) (Ok tt))) (sym k.first),
    k.written ∙ ap (λ (t : Bool). entries_by slots (walk term log base term end at limit acts) (cond t (Err (unsound_frame_at log base at)) (Ok tt))) (sym k.first),
  )

  pub frames-first : (out : List ℤ) → (first_unsound log base term end at limit ≡ true) × (out ≡ slots)
      → (WalkRefused (unsound_frame_at log base at) ≡ frames_by (walk term log base term end at limit acts) (cond (first_unsound log base term end at limit) (Err (unsound_frame_at log base at)) (Ok tt)))
      × (out ≡ entries_by slots (walk term log base term end at limit acts) (cond (first_unsound log base term end at limit) (Err (unsound_frame_at log base at)) (Ok tt)))
  frames-first out h = (
    ap (λ (t : Bool). frames_by (walk term log base term end at limit acts) (cond t (Err (unsound_frame_at log base at)) (Ok tt))) (sym h.0),
    h.1 ∙ ap (λ (t : Bool). entries_by slots (walk term log base term end at limit acts) (cond t (Err (unsound_frame_at log base at)) (Ok tt))) (sym h.0),
  )
