-- A walk over a log of frames goes over a front of them, hands out the data frames of that front, and moves by its size; where it may
-- read and moves nothing, what stands there is free or being written.
use mathlib.Core.Path.{◌≡◌, refl, sym, ap, ap₂, ◌∙◌, subst}
use mathlib.Core.Bool.{Bool, cond, ◌||◌}
use Prim.Native.Nat.{ℕ, zero, suc, ◌+◌, ◌-◌, ◌*◌, ◌/◌, ◌%◌, ◌≤◌, ◌<◌}
use mathlib.Core.List.{List, [], ◌∷◌, ◌++◌, append_assoc}
use native.Mathlib.Omega.{arith}
use borrow.Author.Tests.{le-ltb}
use lib.Dec.{eqb}
use lib.ListN.{length, drop, get_or}
use lib.Seq.{drop_at, drop-drop}
use Rattle.model.specs.declared.Frame.{Frame}
use Rattle.model.specs.declared.Frame.TheVariants.{Absent, Unsound, Padding, Data}
use Rattle.model.specs.declared.FrameLength.TheVariants.{Writing, Finished}
use Rattle.model.specs.Bytes.{zeros, le2, le4, u16, u32}
use Rattle.model.specs.FrameDescriptor.{align, frame_length_of, frame_by, frame_at, flags_at, ends}
use Rattle.model.specs.DataFrameHeader.{header24}
use Rattle.model.specs.TermReader.{Walked, still, over, walk}
use Rattle.model.specs.History.{Shape, State, open·, committed, aborted}
use Rattle.model.proofs.Choice.{le-no, le-case}
use Rattle.model.proofs.Fields.{u32-le4}
use Rattle.model.proofs.FrameLaws.{length-writing, length-finished}
use Rattle.model.proofs.Cells.{Cell, cell, state_of, stored, typ, head, flen, fsize, solid_at, solid, enc, bytes, sizes, length-enc, flen-ge}

-- ---- what stands at a place

unfoldable pub seen : Cell → Frame
seen (cell open· fl re b) = Absent
seen (cell committed fl re b) = Data (flen (cell committed fl re b))
seen (cell aborted fl re b) = Padding (flen (cell aborted fl re b))

-- a frame's length fits 31 bits
unfoldable pub Small : Cell → Type 0
Small f = flen f < 2147483648

length-open : (n : ℕ) → 32 ≤ n → n < 2147483648 → frame_length_of (4294967296 - n) ≡ Writing n
length-open n h k =
    let q : 4294967296 - (4294967296 - n) ≡ n = omega arith in sym (length-writing (4294967296 - n) (omega arith)) ∙ ap Writing q

length-done : (n : ℕ) → 32 ≤ n → n < 2147483648 → frame_length_of n ≡ Finished n
length-done n h k = sym (length-finished n (λ e. omega arith) k)

frame-sound : (ty n room : ℕ) → 32 ≤ n → align n ≤ room → frame_by ty room (Finished n) ≡ cond (eqb ty 0) (Padding n) (Data n)
frame-sound ty n room h k =
    ap₂ (λ (a b : Bool). cond (a || b) (Unsound n) (cond (eqb ty 0) (Padding n) (Data n))) (le-ltb n 32 h) (le-ltb room (align n) k)

stored-small : (k : State) (n : ℕ) → 32 ≤ n → n < 2147483648 → stored k n < 4294967296
unfolding stored
stored-small open· n h l = omega arith
stored-small committed n h l = omega arith
stored-small aborted n h l = omega arith

pub u32-enc : (c : Shape) (p : ℕ) (f : Cell) (r : List ℕ) → Small f → u32 (enc c p f ++ r) ≡ stored (state_of f) (flen f)
unfolding enc Small u32 solid solid_at head header24 le4
u32-enc c p f r s = u32-le4 (stored (state_of f) (flen f)) [] (stored-small (state_of f) (flen f) (flen-ge f) s)

type-enc : (c : Shape) (p : ℕ) (f : Cell) (r : List ℕ) → u16 (drop 6 (enc c p f ++ r)) ≡ typ (state_of f)
unfolding enc u16 solid solid_at head header24 le4 le2 typ
type-enc c p f r = go (state_of f)
  where
    go : (k : State) → typ k % 256 + 256 * (typ k / 256 % 256) ≡ typ k
    go open· = refl
    go committed = refl
    go aborted = refl

by_state : (f : Cell) (room : ℕ) → flen f < 2147483648 → fsize f ≤ room → frame_by (typ (state_of f)) room (frame_length_of (stored (state_of f) (flen f))) ≡ seen f
unfolding stored typ seen fsize
by_state (cell open· fl re b) room s h = ap (frame_by 1 room) (length-open (flen (cell open· fl re b)) (flen-ge (cell open· fl re b)) s)
by_state (cell committed fl re b) room s h =
    ap (frame_by 1 room) (length-done (flen (cell committed fl re b)) (flen-ge (cell committed fl re b)) s)
    ∙ frame-sound 1 (flen (cell committed fl re b)) room (flen-ge (cell committed fl re b)) h
by_state (cell aborted fl re b) room s h =
    ap (frame_by 0 room) (length-done (flen (cell aborted fl re b)) (flen-ge (cell aborted fl re b)) s)
    ∙ frame-sound 0 (flen (cell aborted fl re b)) room (flen-ge (cell aborted fl re b)) h

pub see-enc : (c : Shape) (p : ℕ) (f : Cell) (r : List ℕ) (room : ℕ) → Small f → fsize f ≤ room → frame_at (enc c p f ++ r) room ≡ seen f
unfolding Small frame_at
see-enc c p f r room s h =
    ap₂ (λ (w ty : ℕ). frame_by ty room (frame_length_of w)) (u32-enc c p f r s) (type-enc c p f r) ∙ by_state f room s h

get_d-zeros : (z i : ℕ) → get_or (zeros z) i 0 ≡ 0
unfolding zeros
get_d-zeros zero i = refl
get_d-zeros (suc z) zero = refl
get_d-zeros (suc z) (suc i) = get_d-zeros z i

u32-zeros : (z : ℕ) → u32 (zeros z) ≡ 0
unfolding u32
u32-zeros z = omega (arith, get_d-zeros z 0, get_d-zeros z 1, get_d-zeros z 2, get_d-zeros z 3)

pub see-zeros : (z room : ℕ) → frame_at (zeros z) room ≡ Absent
unfolding frame_at frame_length_of
see-zeros z room = ap (λ (w : ℕ). frame_by (u16 (drop 6 (zeros z))) room (frame_length_of w)) (u32-zeros z)

-- ---- frames that lie in terms

-- the room left, a full term's where a term has just ended
unfoldable pub norm : ℕ → ℕ → ℕ
norm T zero = T
norm T (suc r) = suc r

-- from a place with this room on, each frame fits its term
unfoldable pub Fits : ℕ → ℕ → List Cell → Type 0
Fits T room [] = Unit {0}
Fits T room (f ∷ fs) = Small f × (fsize f ≤ room) × Fits T (norm T (room - fsize f)) fs

unfoldable pub AllSmall : List Cell → Type 0
AllSmall [] = Unit {0}
AllSmall (f ∷ fs) = Small f × AllSmall fs

-- no claim is open
unfoldable pub Clear : List Cell → Type 0
Clear [] = Unit {0}
Clear (cell open· fl re b ∷ fs) = ⊥
Clear (cell committed fl re b ∷ fs) = Clear fs
Clear (cell aborted fl re b ∷ fs) = Clear fs

-- the bodies handed out from an offset on
unfoldable pub ents_of : ℕ → List Cell → List (ℕ × ℕ)
ents_of at [] = []
ents_of at (cell open· fl re b ∷ fs) = []
ents_of at (cell committed fl re b ∷ fs) = (at + 32, flen (cell committed fl re b) - 32) ∷ ents_of (at + fsize (cell committed fl re b)) fs
ents_of at (cell aborted fl re b ∷ fs) = ents_of (at + fsize (cell aborted fl re b)) fs

-- a walk of a term of T bytes has gone over the frames `front`
pub record Goes (T at : ℕ) (fs : List Cell) (w : Walked) : Type 0 where
  pub front : List Cell
  pub back : List Cell
  pub cut : fs ≡ front ++ back
  pub clear : Clear front
  pub entries : w.entries ≡ ents_of at front
  pub fragments : w.fragments ≡ length w.entries
  pub moved : w.moved ≡ sizes front
  pub within : sizes front ≤ T - at

goes_none : (T at : ℕ) (fs : List Cell) → Goes T at fs still
unfolding Clear ents_of sizes
goes_none T at fs = record { within = omega arith; front = []; back = fs; cut = refl; clear = tt; entries = refl; fragments = refl; moved = refl }

pub drop-next : (c : Shape) (p : ℕ) (f : Cell) (fs : List Cell) (t : List ℕ) (log : List ℕ) → drop p log ≡ bytes c p (f ∷ fs) ++ t → drop (p + fsize f) log ≡ bytes c (p + fsize f) fs ++ t
unfolding bytes
drop-next c p f fs t log e =
    sym (drop-drop (fsize f) p log)
    ∙ ap (drop (fsize f)) (e ∙ append_assoc (enc c p f) (bytes c (p + fsize f) fs) t)
    ∙ drop_at (enc c p f) (bytes c (p + fsize f) fs ++ t) (fsize f) (length-enc c p f)

module _ (c : Shape) (T z base : ℕ) (log : List ℕ) where
  -- the same at an offset of a partition
  next-at : (at : ℕ) (f : Cell) (fs : List Cell) → drop (base + at) log ≡ bytes c (base + at) (f ∷ fs) ++ zeros z
      → drop (base + (at + fsize f)) log ≡ bytes c (base + (at + fsize f)) fs ++ zeros z
  next-at at f fs e =
      let q : base + at + fsize f ≡ base + (at + fsize f) = omega arith in
      subst (λ (p : ℕ). drop p log ≡ bytes c p fs ++ zeros z) q (drop-next c (base + at) f fs (zeros z) log e)

  goes_step : (fuel at limit : ℕ) (whole : Bool) (f : Cell) (fs : List Cell) → fsize f ≤ T - at → ((l : ℕ) → Goes T (at + fsize f) fs (walk fuel log base T T (at + fsize f) l []))
      → Goes T at (f ∷ fs) (over (seen f) whole at limit [] (λ a l more. walk fuel log base T T a l more))
  unfolding seen fsize Clear ents_of sizes
  goes_step fuel at limit whole (cell open· fl re b) fs fit ih = goes_none T at (cell open· fl re b ∷ fs)
  goes_step fuel at limit whole (cell committed fl re b) fs fit ih =
      let w = ih limit in
      record {
        front = cell committed fl re b ∷ w.front;
        back = w.back;
        cut = ap (λ (r : List Cell). cell committed fl re b ∷ r) w.cut;
        clear = w.clear;
        entries = ap (λ (r : List (ℕ × ℕ)). (at + 32, flen (cell committed fl re b) - 32) ∷ r) w.entries;
        fragments = ap suc w.fragments;
        moved = ap (λ (n : ℕ). fsize (cell committed fl re b) + n) w.moved;
        within = omega (arith, w.within);
      }
  goes_step fuel at limit whole (cell aborted fl re b) fs fit ih =
      let w = ih (suc limit) in
      record {
        front = cell aborted fl re b ∷ w.front;
        back = w.back;
        cut = ap (λ (r : List Cell). cell aborted fl re b ∷ r) w.cut;
        clear = w.clear;
        entries = w.entries;
        fragments = w.fragments;
        moved = ap (λ (n : ℕ). fsize (cell aborted fl re b) + n) w.moved;
        within = omega (arith, w.within);
      }

  pub see-here : (at room : ℕ) (f : Cell) (fs : List Cell) → drop (base + at) log ≡ bytes c (base + at) (f ∷ fs) ++ zeros z → Small f → fsize f ≤ room → frame_at (drop (base + at) log) room ≡ seen f
  unfolding bytes
  see-here at room f fs e s h =
      ap (λ (s : List ℕ). frame_at s room) (e ∙ append_assoc (enc c (base + at) f) (bytes c (base + at + fsize f) fs) (zeros z))
      ∙ see-enc c (base + at) f (bytes c (base + at + fsize f) fs ++ zeros z) room s h

  pub see-end : (at room : ℕ) → drop (base + at) log ≡ bytes c (base + at) [] ++ zeros z → frame_at (drop (base + at) log) room ≡ Absent
  unfolding bytes
  see-end at room e = ap (λ (s : List ℕ). frame_at s room) e ∙ see-zeros z room

  norm-pos : (r : ℕ) → zero < r → norm T r ≡ r
  unfolding norm
  norm-pos zero h = absurd (omega arith)
  norm-pos (suc r) h = refl

  pub goes : (fuel at limit : ℕ) (fs : List Cell) → drop (base + at) log ≡ bytes c (base + at) fs ++ zeros z → Fits T (norm T (T - at)) fs → Goes T at fs (walk fuel log base T T at limit [])
  unfolding walk Fits
  goes zero at limit fs e h = goes_none T at fs
  goes (suc fuel) at zero fs e h = goes_none T at fs
  goes (suc fuel) at (suc limit) [] e h =
      le-case (Goes T at []) T at still _ (λ k. goes_none T at [])
      (λ k. subst (λ (x : Frame). Goes T at [] (over x (ends (flags_at (drop (base + at) log))) at limit [] (λ a l more. walk fuel log base T T a l more)))
      (sym (see-end at (T - at) e)) (goes_none T at []))
  goes (suc fuel) at (suc limit) (f ∷ fs) e h =
      le-case (Goes T at (f ∷ fs)) T at still _ (λ k. goes_none T at (f ∷ fs))
      (λ k.
      let room : norm T (T - at) ≡ T - at = norm-pos (T - at) (omega arith) in
      let fit : fsize f ≤ T - at = subst (λ (r : ℕ). fsize f ≤ r) room h.1 in
      let rest : Fits T (norm T (T - (at + fsize f))) fs = subst (λ (r : ℕ). Fits T (norm T r) fs) (ap (λ (r : ℕ). r - fsize f) room ∙ omega arith) h.2 in
      subst (λ (x : Frame). Goes T at (f ∷ fs) (over x (ends (flags_at (drop (base + at) log))) at limit [] (λ a l more. walk fuel log base T T a l more)))
      (sym (see-here at (T - at) f fs e h.0 fit))
      (goes_step fuel at limit (ends (flags_at (drop (base + at) log))) f fs fit (λ l. goes fuel (at + fsize f) l fs (next-at at f fs e) rest)))

-- ---- a walk that may read moves, unless what stands there is free or being written

unfoldable pub Stuck : List Cell → Type 0
Stuck [] = Unit {0}
Stuck (cell open· fl re b ∷ fs) = Unit {0}
Stuck (cell committed fl re b ∷ fs) = ⊥
Stuck (cell aborted fl re b ∷ fs) = ⊥

over-moves : (f : Cell) (fs : List Cell) (whole : Bool) (at limit : ℕ) (go : ℕ → ℕ → List ℕ → Walked) → (over (seen f) whole at limit [] go).moved ≡ 0 → Stuck (f ∷ fs)
unfolding seen Stuck
over-moves (cell open· fl re b) fs whole at limit go e = tt
over-moves (cell committed fl re b) fs whole at limit go e = omega (arith, flen-ge (cell committed fl re b))
over-moves (cell aborted fl re b) fs whole at limit go e = omega (arith, flen-ge (cell aborted fl re b))

pub moves : (c : Shape) (T z base : ℕ) (log : List ℕ) (fuel at limit : ℕ) (fs : List Cell) → zero < fuel → at < T → zero < limit
    → drop (base + at) log ≡ bytes c (base + at) fs ++ zeros z → Fits T (T - at) fs → (walk fuel log base T T at limit []).moved ≡ 0 → Stuck fs
unfolding walk Fits Stuck
moves c T z base log zero at limit fs hf hr hl e h m = absurd (omega arith)
moves c T z base log (suc fuel) at zero fs hf hr hl e h m = absurd (omega arith)
moves c T z base log (suc fuel) at (suc limit) [] hf hr hl e h m = tt
moves c T z base log (suc fuel) at (suc limit) (f ∷ fs) hf hr hl e h m =
    over-moves f fs (ends (flags_at (drop (base + at) log))) at limit (λ a l more. walk fuel log base T T a l more)
    (subst (λ (x : Frame). (over x (ends (flags_at (drop (base + at) log))) at limit [] (λ a l more. walk fuel log base T T a l more)).moved ≡ 0)
    (see-here c T z base log at (T - at) f fs e h.0 h.1)
    (sym (ap (λ (w : Walked). w.moved) (le-no T at still _ hr)) ∙ m))

-- ---- a walk hands out at most as many bodies as it may

few-over : (x : Frame) (whole : Bool) (at limit : ℕ) (go : ℕ → ℕ → List ℕ → Walked) → ((a l : ℕ) → length (go a l []).entries ≤ l) → length (over x whole at limit [] go).entries ≤ suc limit
few-over Absent whole at limit go ih = omega arith
few-over (Unsound n) whole at limit go ih = omega arith
few-over (Padding n) whole at limit go ih = ih (at + align n) (suc limit)
few-over (Data n) whole at limit go ih = omega (arith, ih (at + align n) limit)

pub few : (fuel : ℕ) (log : List ℕ) (base term end at limit : ℕ) → length (walk fuel log base term end at limit []).entries ≤ limit
unfolding walk
few zero log base term end at limit = omega arith
few (suc fuel) log base term end at zero = omega arith
few (suc fuel) log base term end at (suc limit) =
    le-case (λ (w : Walked). length w.entries ≤ suc limit) end at still _ (λ k. omega arith)
    (λ k. few-over (frame_at (drop (base + at) log) (term - at)) (ends (flags_at (drop (base + at) log))) at limit (λ a l more. walk fuel log base term end a l more)
    (λ a l. few fuel log base term end a l))
