-- A peek: its ladder goes on to rows 15 and 16, and it answers how far the walk has settled.
use Rattle.std.specs.Prelude.{Result, Ok, Err}
use Rattle.model.specs.declared.Error.{Error}
use mathlib.Core.Path.{◌≡◌, refl, sym, ap, ap₂, ◌∙◌}
use mathlib.Core.Bool.{Bool, true, false, ◌&&◌, ◌||◌, not}
use mathlib.Core.List.{List}
use Prim.Native.Nat.{ℕ, ◌+◌, ◌-◌, ◌%◌, ◌≤◌, min}
use native.Mathlib.Omega.{arith}
use borrow.Author.Tests.{le-leb, ltb-false, eqb-true}
use lib.Dec.{eqb, leb, ltb}
use lib.ListN.{length}
use lib.IntN.{ℤ}
use Rattle.model.specs.declared.LogRecord.{LogRecord}
use Rattle.model.specs.declared.Reading.{Reading}
use Rattle.model.specs.declared.Error.TheVariants.{NewPositionOutOfRange, NewPositionNotAligned}
use Rattle.model.specs.declared.ReadVerdict.{ReadVerdict}
use Rattle.model.specs.declared.ReadVerdict.TheVariants.{Read, Closed}
use Rattle.model.specs.Bytes.{long}
use Rattle.model.specs.LogBufferDescriptor.{reading, greatest}
use Rattle.model.specs.TermReader.{Walked, natural, good_entries, good_actions}
use Rattle.model.specs.Image.{Image as State, refuse_if, readable, reachable, end_offset, walk_at, unsound_at, unsound_frame_of, slots_by, peek_verdict, peeked_by, peek_of, peek_slots}
use Rattle.image.proofs.Rungs.{after, Readable, readable-after, readable-read}

-- ---- rows 15 and 16 after the others

after-after : (x y rest : Result ReadVerdict Error) → after (after x y) rest ≡ after x (after y rest)
after-after (Ok Read) y rest = refl
after-after (Ok Closed) y rest = refl
after-after (Err e) y rest = refl

after_read : (x y : Result ReadVerdict Error) → after x y ≡ (Ok Read) → (x ≡ Ok Read) × (y ≡ Ok Read)
after_read (Ok Read) y h = (refl, h)
after_read (Ok Closed) y h = absurd (let z : ◌≡◌ {A = ℕ} 0 1 = cc in omega arith)
after_read (Err e) y h = absurd (let z : ◌≡◌ {A = ℕ} 0 1 = cc in omega arith)

abbrev reaching : Bool → Bool → Bool → Result ReadVerdict Error → Result ReadVerdict Error
reaching a b c rest = refuse_if (a || b) NewPositionOutOfRange (refuse_if (not c) NewPositionNotAligned rest)

reaching-after : (a b c : Bool) (rest : Result ReadVerdict Error) → reaching a b c rest ≡ after (reaching a b c (Ok Read)) rest
reaching-after true b c rest = refl
reaching-after false true c rest = refl
reaching-after false false false rest = refl
reaching-after false false true rest = refl

reaching-read : (a b c : Bool) → reaching a b c (Ok Read) ≡ (Ok Read) → (b ≡ false) × (c ≡ true)
reaching-read true b c h = absurd (let z : ◌≡◌ {A = ℕ} 0 1 = cc in omega arith)
reaching-read false true c h = absurd (let z : ◌≡◌ {A = ℕ} 0 1 = cc in omega arith)
reaching-read false false false h = absurd (let z : ◌≡◌ {A = ℕ} 0 1 = cc in omega arith)
reaching-read false false true h = (refl, refl)

module _ (v : Reading) (current new : ℕ) where
  reachable-after : (rest : Result ReadVerdict Error) → reachable v current new rest ≡ after (reachable v current new (Ok Read)) rest
  unfolding reachable
  reachable-after rest = reaching-after (ltb new current) (ltb (current - current % v.term + v.term) new) (eqb (new % 32) 0) rest

  reachable-read : reachable v current new (Ok Read) ≡ (Ok Read) → (new ≤ current - current % v.term + v.term) × (new % 32 ≡ 0)
  unfolding reachable
  reachable-read h =
      let k = reaching-read (ltb new current) (ltb (current - current % v.term + v.term) new) (eqb (new % 32) 0) h in
      (ltb-false _ _ k.0, eqb-true _ _ k.1)

module _ (good : Bool) (v : Reading) (n : ℕ) (i : State) (new : ℕ) (x : Result ReadVerdict Error)
    (ex : x ≡ readable good v n i (reachable v (long i.position) new (Ok Read))) where
  abbrev before : Result ReadVerdict Error
  before = readable good v n i (Ok Read)

  pub reach-after : (rest : Result ReadVerdict Error) → after x rest ≡ readable good v n i (reachable v (long i.position) new rest)
  reach-after rest =
      let q = reachable v (long i.position) new (Ok Read) in
      ap (λ (y : Result ReadVerdict Error). after y rest) (ex ∙ sym (readable-after good v n i before q refl)) ∙ after-after before q rest
      ∙ ap (after before) (sym (reachable-after v (long i.position) new rest)) ∙ readable-after good v n i before _ refl

  parts : x ≡ (Ok Read) → (before ≡ Ok Read) × (reachable v (long i.position) new (Ok Read) ≡ Ok Read)
  parts h = after_read before _ (readable-after good v n i before _ refl ∙ sym ex ∙ h)

  pub reach-readable : x ≡ (Ok Read) → Readable good v n (long i.position)
  reach-readable h = readable-read good v n i (sym (parts h).0)

  pub reach-new : x ≡ (Ok Read) → (new ≤ greatest v + v.term) × (new % 32 ≡ 0)
  reach-new h =
      let k = reachable-read v (long i.position) new (parts h).1 in
      (omega (arith, k.0, (reach-readable h).high), k.1)

-- ---- the call, over the code's numbers

at-most-itself : (n : ℕ) → (leb n 2147483647 && leb n n) ≡ leb n 2147483647
at-most-itself n = let h : n ≤ n = omega arith in rw (le-leb n n h) (both (leb n 2147483647))
  where
    both : (b : Bool) → (b && true) ≡ b
    both true = refl
    both false = refl

module _ (r : LogRecord) (log : List ℕ) (i : State) (slots : List ℤ) (acts : List ℕ) (start bound : ℤ) (v : Reading) (p b end : ℕ) (good : Bool) (ev : v ≡ reading r) (ep : p ≡ long start)
    (eb : b ≡ natural bound) (ee : end ≡ min v.term (p % v.term + (b - p)))
    (eg : good ≡ (good_entries (length slots) (length acts) && (good_actions acts && (leb (length acts) 2147483647 && leb (length acts) (length acts))))) (x : Result ReadVerdict Error)
    (ex : x ≡ readable good v (length log) i (reachable v (long i.position) p (Ok Read))) where
  abbrev frame_row : Result ReadVerdict Error
  frame_row = refuse_if (unsound_at v log p end (length acts)) (unsound_frame_of v log p) (Ok Read)

  abbrev walked : Walked
  walked = walk_at v log p end (length acts) acts

  good-is : good ≡ (good_entries (length slots) (length acts) && (good_actions acts && leb (length acts) 2147483647))
  good-is = eg ∙ ap (λ (t : Bool). good_entries (length slots) (length acts) && (good_actions acts && t)) (at-most-itself (length acts))

  verdict-is : after x frame_row ≡ peek_verdict (reading r) log i (length slots) acts (long start) (natural bound)
  unfolding peek_verdict
  verdict-is =
      let f : Reading → ℕ → ℕ → Bool → (Result ReadVerdict Error) = λ (u : Reading) (q c : ℕ) (g : Bool). readable g u (length log) i (reachable u (long i.position) q
      (refuse_if (unsound_at u log q (end_offset u q c) (length acts)) (unsound_frame_of u log q) (Ok Read))) in
      let j : ℕ → (Result ReadVerdict Error) = λ (e : ℕ). readable good v (length log) i (reachable v (long i.position) p (refuse_if (unsound_at v log p e (length acts)) (unsound_frame_of v log p) (Ok Read))) in
      reach-after good v (length log) i p x ex frame_row ∙ ap j ee ∙ ap₂ (λ (u : Reading) (q : ℕ). f u q b good) ev ep ∙ ap₂ (f (reading r) (long start)) eb good-is

  walk_is : walked ≡ walk_at (reading r) log (long start) (end_offset (reading r) (long start) (natural bound)) (length acts) acts
  walk_is =
      let w : Reading → ℕ → ℕ → Walked = λ (u : Reading) (q c : ℕ). walk_at u log q (end_offset u q c) (length acts) acts in
      ap (λ (e : ℕ). walk_at v log p e (length acts) acts) ee ∙ ap₂ (λ (u : Reading) (q : ℕ). w u q b) ev ep ∙ ap (w (reading r) (long start)) eb

  pub as-peek : (peeked_by start walked (after x frame_row) ≡ peek_of r log i slots acts start bound) × (slots_by slots walked (after x frame_row) ≡ peek_slots r log i slots acts start bound)
  unfolding peek_of peek_slots
  as-peek = (ap₂ (peeked_by start) walk_is verdict-is, ap₂ (slots_by slots) walk_is verdict-is)
