-- The log of three partitions as a window on the log of the whole stream. In the stream's log, which no program holds, the byte of
-- position p lies at index p: what is proved of it is proved of no partition. Partition k of the real log shows term t of the stream's
-- where k is the remainder of t by 3. What is laid at one place of both is shown again, and a reader that stays in a term reads the same
-- in both.
use mathlib.Core.Path.{◌≡◌, refl, sym, ap, ap₂, ◌∙◌, subst}
use mathlib.Core.Bool.{Bool}
use Prim.Native.Nat.{ℕ, zero, suc, ◌+◌, ◌-◌, ◌*◌, ◌%◌, ◌≤◌, ◌<◌}
use native.Mathlib.Nat.{mul-le-mul_right}
use native.Mathlib.Omega.{arith}
use mathlib.Core.List.{List, [], ◌∷◌, ◌++◌}
use lib.ListN.{length, take, drop, get_or, length-take, length-drop, take-append-drop, get_or-append}
use lib.Seq.{length-take-le, get_or-take, get_or-drop, get_or-append-add, ext_get_or, drop-drop}
use Rattle.model.specs.declared.Reading.{Reading}
use Rattle.model.specs.declared.Frame.{Frame}
use Rattle.model.specs.declared.Frame.TheVariants.{Absent, Unsound, Padding, Data}
use Rattle.model.specs.Bytes.{splice, u16, u32, le2, le4, le8}
use Rattle.model.specs.FrameDescriptor.{align, space, frame_by, frame_length_of, frame_at, flags_at, ends}
use Rattle.model.specs.DataFrameHeader.{header24, header_bytes}
use Rattle.model.specs.TermReader.{Walked, still, over, handed_by, next_action, passed, walk}
use Rattle.model.specs.TermAppender.{header, Fragment, fragment, body_of, fragment_bytes, written, sizes}
use Rattle.model.proofs.Choice.{split, same?, le_yes, le-no}
use Rattle.model.proofs.Splice.{length-splice}

-- ---- bytes laid over a log, byte by byte

pub in-splice : (l : List ℕ) (at : ℕ) (new : List ℕ) (i : ℕ) → at ≤ length l → i < length new → get_or (splice l at new) (at + i) 0 ≡ get_or new i 0
unfolding splice
in-splice l at new i h k =
    ap (λ (n : ℕ). get_or (take at l ++ (new ++ drop (at + length new) l)) (n + i) 0) (sym (length-take-le at l h))
    ∙ get_or-append-add (take at l) (new ++ drop (at + length new) l) i 0
    ∙ get_or-append new (drop (at + length new) l) 0 i k

pub before-splice : (l : List ℕ) (at : ℕ) (new : List ℕ) (i : ℕ) → at ≤ length l → i < at → get_or (splice l at new) i 0 ≡ get_or l i 0
unfolding splice
before-splice l at new i h k =
    get_or-append (take at l) (new ++ drop (at + length new) l) 0 i (omega (arith, length-take-le at l h)) ∙ get_or-take at l i 0 k

pub behind-splice : (l : List ℕ) (at : ℕ) (new : List ℕ) (i : ℕ) → at ≤ length l → at + length new ≤ i → get_or (splice l at new) i 0 ≡ get_or l i 0
unfolding splice
behind-splice l at new i h k =
    let j = i - (at + length new) in
    let e : i ≡ length (take at l) + (length new + j) = omega (arith, length-take-le at l h) in
    let f : at + length new + j ≡ i = omega arith in
    ap (λ (n : ℕ). get_or (take at l ++ (new ++ drop (at + length new) l)) n 0) e
    ∙ get_or-append-add (take at l) (new ++ drop (at + length new) l) (length new + j) 0
    ∙ get_or-append-add new (drop (at + length new) l) j 0
    ∙ get_or-drop (at + length new) l j 0
    ∙ ap (λ (n : ℕ). get_or l n 0) f

-- ---- a partition that shows a term

-- partition k of `log` shows term t of `all`
unfoldable pub Shows : ℕ → List ℕ → ℕ → List ℕ → ℕ → Type 0
Shows T log k all t = (i : ℕ) → i < T → get_or log (k * T + i) 0 ≡ get_or all (t * T + i) 0

-- three terms, from the first one not cleared on
unfoldable pub Window : ℕ → List ℕ → List ℕ → ℕ → Type 0
Window T log all low = (t : ℕ) → low ≤ t → t ≤ low + 2 → Shows T log (t % 3) all t

pub shown : (T : ℕ) (log all : List ℕ) (low t : ℕ) → Window T log all low → low ≤ t → t ≤ low + 2 → Shows T log (t % 3) all t
unfolding Window
shown T log all low t w a b = w t a b

-- what is laid in one term is not in another
apart : (T k j o n i : ℕ) → ¬ (j ≡ k) → o + n ≤ T → i < T → (X : Type 0) → (j * T + i < k * T + o → X) → (k * T + o + n ≤ j * T + i → X) → X
apart T k j o n i d h l X f g =
    split k j (λ (q : k ≤ j). let p : k + 1 ≤ j = omega arith in g (omega (arith, mul-le-mul_right T p)))
    (λ (q : j < k). f (omega (arith, mul-le-mul_right T q)))

pub other-kept : (T : ℕ) (l : List ℕ) (k j o : ℕ) (new : List ℕ) (i : ℕ) → ¬ (j ≡ k) → o + length new ≤ T → k * T + o ≤ length l → i < T → get_or (splice l (k * T + o) new) (j * T + i) 0 ≡ get_or l (j * T + i) 0
other-kept T l k j o new i d h e q =
    apart T k j o (length new) i d h q _ (λ b. before-splice l (k * T + o) new (j * T + i) e b) (λ b. behind-splice l (k * T + o) new (j * T + i) e b)

-- the same bytes laid at the same place of a term in both
module _ (T : ℕ) (log all : List ℕ) (o : ℕ) (new : List ℕ) (fit : o + length new ≤ T) where
  laid-here : (k t : ℕ) → k * T + o ≤ length log → t * T + o ≤ length all → Shows T log k all t → Shows T (splice log (k * T + o) new) k (splice all (t * T + o) new) t
  unfolding Shows
  laid-here k t a b s i l =
      split o i
      (λ (p : o ≤ i).
      split (o + length new) i
      (λ (q : o + length new ≤ i).
      behind-splice log (k * T + o) new (k * T + i) a (omega arith) ∙ s i l ∙ sym (behind-splice all (t * T + o) new (t * T + i) b (omega arith)))
      (λ (q : i < o + length new).
      let e : k * T + i ≡ k * T + o + (i - o) = omega arith in
      let f : t * T + i ≡ t * T + o + (i - o) = omega arith in
      ap (λ (n : ℕ). get_or (splice log (k * T + o) new) n 0) e ∙ in-splice log (k * T + o) new (i - o) a (omega arith)
      ∙ sym (ap (λ (n : ℕ). get_or (splice all (t * T + o) new) n 0) f ∙ in-splice all (t * T + o) new (i - o) b (omega arith))))
      (λ (p : i < o).
      before-splice log (k * T + o) new (k * T + i) a (omega arith) ∙ s i l ∙ sym (before-splice all (t * T + o) new (t * T + i) b (omega arith)))

  laid-there : (k t j u : ℕ) → k * T + o ≤ length log → t * T + o ≤ length all → ¬ (j ≡ k) → ¬ (u ≡ t) → Shows T log j all u → Shows T (splice log (k * T + o) new) j (splice all (t * T + o) new) u
  unfolding Shows
  laid-there k t j u a b d e s i l = other-kept T log k j o new i d fit a l ∙ s i l ∙ sym (other-kept T all t u o new i e fit b l)

  pub laid : (low t : ℕ) → low ≤ t → t ≤ low + 2 → t % 3 * T + o ≤ length log → t * T + o ≤ length all → Window T log all low → Window T (splice log (t % 3 * T + o) new) (splice all (t * T + o) new) low
  unfolding Window
  laid low t p q a b w u m n =
      same? u t
      (λ (e : u ≡ t). subst (λ (x : ℕ). Shows T (splice log (t % 3 * T + o) new) (x % 3) (splice all (t * T + o) new) x) (sym e) (laid-here (t % 3) t a b (w t p q)))
      (λ (e : ¬ (u ≡ t)). laid-there (t % 3) t (u % 3) u a b (λ (z : u % 3 ≡ t % 3). e (omega arith)) e (w u m n))

-- ---- fragments

fragment-long : (v : Reading) (o : ℕ) (f : Fragment) → length (fragment_bytes v o f) ≡ length (body_of f) + 32
unfolding fragment_bytes header header24 header_bytes le4 le2 le8
fragment-long v o (fragment fl re b) = omega arith

module _ (v : Reading) (T low t : ℕ) (p : low ≤ t) (q : t ≤ low + 2) where
  pub laid-all : (log all : List ℕ) (o : ℕ) (fs : List Fragment) → o + sizes fs ≤ T → t % 3 * T + T ≤ length log → t * T + T ≤ length all → Window T log all low
      → Window T (written v log (t % 3 * T) o fs) (written v all (t * T) o fs) low
  unfolding written sizes
  laid-all log all o [] h a b w = w
  laid-all log all o (f ∷ fs) h a b w =
      let n = fragment_bytes v o f in
      let e : length n ≡ length (body_of f) + 32 = fragment-long v o f in
      let la : length (splice log (t % 3 * T + o) n) ≡ length log = length-splice log (t % 3 * T + o) n (omega arith) in
      let lb : length (splice all (t * T + o) n) ≡ length all = length-splice all (t * T + o) n (omega arith) in
      laid-all (splice log (t % 3 * T + o) n) (splice all (t * T + o) n) (o + space (length (body_of f))) fs (omega arith) (omega arith) (omega arith)
      (laid T log all o n (omega arith) low t p q (omega arith) (omega arith) w)

  pub written-long : (log : List ℕ) (base o : ℕ) (fs : List Fragment) → o + sizes fs ≤ T → base + T ≤ length log → length (written v log base o fs) ≡ length log
  unfolding written sizes
  written-long log base o [] h a = refl
  written-long log base o (f ∷ fs) h a =
      let n = fragment_bytes v o f in
      let e : length n ≡ length (body_of f) + 32 = fragment-long v o f in
      let la : length (splice log (base + o) n) ≡ length log = length-splice log (base + o) n (omega arith) in
      written-long (splice log (base + o) n) base (o + space (length (body_of f))) fs (omega arith) (omega arith) ∙ la

-- ---- reading

module _ (T : ℕ) (log all : List ℕ) (k t : ℕ) (s : Shows T log k all t) where
  byte-same : (at j : ℕ) → at + j < T → get_or (drop (k * T + at) log) j 0 ≡ get_or (drop (t * T + at) all) j 0
  unfolding Shows
  byte-same at j l =
      let e : k * T + at + j ≡ k * T + (at + j) = omega arith in
      let f : t * T + (at + j) ≡ t * T + at + j = omega arith in
      get_or-drop (k * T + at) log j 0 ∙ ap (λ (n : ℕ). get_or log n 0) e ∙ s (at + j) l ∙ ap (λ (n : ℕ). get_or all n 0) f ∙ sym (get_or-drop (t * T + at) all j 0)

  pub word_same : (at : ℕ) → at + 4 ≤ T → u32 (drop (k * T + at) log) ≡ u32 (drop (t * T + at) all)
  unfolding u32
  word_same at l = omega (arith, byte-same at 0 (omega arith), byte-same at 1 (omega arith), byte-same at 2 (omega arith), byte-same at 3 (omega arith))

  type-same : (at : ℕ) → at + 8 ≤ T → u16 (drop 6 (drop (k * T + at) log)) ≡ u16 (drop 6 (drop (t * T + at) all))
  unfolding u16
  type-same at l =
      omega (
        arith,
        byte-same at 6 (omega arith),
        byte-same at 7 (omega arith),
        get_or-drop 6 (drop (k * T + at) log) 0 0,
        get_or-drop 6 (drop (k * T + at) log) 1 0,
        get_or-drop 6 (drop (t * T + at) all) 0 0,
        get_or-drop 6 (drop (t * T + at) all) 1 0,
      )

  pub frame_same : (at room : ℕ) → at + 8 ≤ T → frame_at (drop (k * T + at) log) room ≡ frame_at (drop (t * T + at) all) room
  unfolding frame_at
  frame_same at room l = ap₂ (λ (a b : ℕ). frame_by a room (frame_length_of b)) (type-same at l) (word_same at (omega arith))

  flags-same : (at : ℕ) → at + 8 ≤ T → flags_at (drop (k * T + at) log) ≡ flags_at (drop (t * T + at) all)
  flags-same at l = byte-same at 5 (omega arith)

  over-same : (x : Frame) (whole : Bool) (at limit : ℕ) (go go' : ℕ → ℕ → List ℕ → Walked) → at % 32 ≡ 0 → ((a l : ℕ) → a % 32 ≡ 0 → go a l [] ≡ go' a l [])
      → over x whole at limit [] go ≡ over x whole at limit [] go'
  over-same Absent whole at limit go go' h e = refl
  over-same (Unsound u) whole at limit go go' h e = refl
  over-same (Padding n) whole at limit go go' h e = ap (passed (align n)) (e (at + align n) (suc limit) (omega arith))
  over-same (Data n) whole at limit go go' h e = ap (handed_by (next_action []) at n whole) (e (at + align n) limit (omega arith))

  -- a walk that starts in the term reads the same in both
  pub walk_same : (fuel at limit : ℕ) → T % 32 ≡ 0 → at % 32 ≡ 0 → walk fuel log (k * T) T T at limit [] ≡ walk fuel all (t * T) T T at limit []
  unfolding walk
  walk_same zero at limit e h = refl
  walk_same (suc fuel) at zero e h = refl
  walk_same (suc fuel) at (suc limit) e h =
      split T at
      (λ (q : T ≤ at). le_yes T at still _ q ∙ sym (le_yes T at still _ q))
      (λ (q : at < T).
      le-no T at still _ q
      ∙ ap₂ (λ (x : Frame) (f : ℕ). over x (ends f) at limit [] (λ a l more. walk fuel log (k * T) T T a l more)) (frame_same at (T - at) (omega arith)) (flags-same at (omega arith))
      ∙ over-same (frame_at (drop (t * T + at) all) (T - at)) (ends (flags_at (drop (t * T + at) all))) at limit (λ a l more. walk fuel log (k * T) T T a l more) (λ a l more. walk fuel all (t * T) T T a l more) h
      (λ a l m. walk_same fuel a l e m)
      ∙ sym (le-no T at still _ q))

  -- what lies in the term of the stream's log lies in the partition
  pub lies_same : (at : ℕ) (x y : List ℕ) → at + length x ≤ T → k * T + T ≤ length log → drop (t * T + at) all ≡ x ++ y → drop (k * T + at) log ≡ x ++ drop (k * T + at + length x) log
  lies_same at x y h l e =
      let n = length x in
      let len : length (take n (drop (k * T + at) log)) ≡ n = omega (arith, length-take n (drop (k * T + at) log), length-drop (k * T + at) log) in
      let same : take n (drop (k * T + at) log) ≡ x =
      ext_get_or 0 (take n (drop (k * T + at) log)) x len
      (λ i q. get_or-take n (drop (k * T + at) log) i 0 (omega arith) ∙ byte-same at i (omega arith) ∙ ap (λ (r : List ℕ). get_or r i 0) e ∙ get_or-append x y 0 i (omega arith)) in
      sym (take-append-drop n (drop (k * T + at) log)) ∙ ap₂ ◌++◌ same (drop-drop n (k * T + at) log)
