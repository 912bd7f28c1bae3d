-- A data frame of the log by its numbers; and a fragment whose body is laid behind what its session holds is the assembler's own step, with the session's number kept apart from the array's.
use Rattle.std.specs.Prelude.{Option, Some, None, Ok}
use Rattle.std.specs.Option.{option_map}
use Rattle.std.proofs.lemmas.Option.{none-some, same_Some, cond_some}
use Prim.Native.Nat.{ℕ, zero, suc, ◌+◌, ◌-◌, ◌*◌, ◌/◌, ◌%◌, ◌≤◌, ◌<◌, min}
use mathlib.Core.Path.{◌≡◌, refl, sym, ap, ap₂, ◌∙◌, subst}
use mathlib.Core.Bool.{Bool, true, false, cond}
use mathlib.Core.List.{List, [], ◌∷◌}
use native.Mathlib.Nat.{mod-lt, mul-le-mul_right}
use native.Mathlib.Omega.{arith}
use borrow.Author.Tests.{eq-eqb}
use lib.Dec.{eqb}
use lib.IntN.{ℤ}
use lib.ListN.{length, take, drop, get_or, set}
use lib.Seq.{set-set, drop-drop}
use Rattle.model.specs.declared.Assembled.TheVariants.{Nothing, Message}
use Rattle.model.specs.declared.Joining.{Joining}
use Rattle.model.specs.declared.Joining.TheVariants.{Join, Complete}
use Rattle.model.specs.declared.Frame.TheVariants.{Data}
use Rattle.model.specs.Bytes.{word, u32, splice}
use Rattle.model.specs.FrameDescriptor.{frame_at, flags_at, ends}
use Rattle.model.specs.FragmentAssembler.{Sessions, Assembly, place_in, place_of, holding, part_length, session_at, body_length, joined}
use Rattle.model.proofs.Choice.{cond-true, cond-false, split}
use Rattle.logbuffer.specs.Assembler.{sessions_as, entered_with, Framed, join_of}
use Rattle.logbuffer.specs.Whole.{data_length}
use Rattle.logbuffer.specs.Fragments.{fragment_at, behind, is_laid, laid_of, laid_bytes}
use Rattle.logbuffer.specs.declared.fragment_assembler.Laid.{Laid}
use Rattle.logbuffer.specs.declared.fragment_assembler.FragmentHeader.{FragmentHeader}
use Rattle.model.proofs.FrameLaws.{lies}
use Rattle.logbuffer.proofs.Sessions.{entered-before, entered-new, held_in, held_by}
use Rattle.logbuffer.proofs.Fragments.{fragment-none, fragment-so, Lying, laid-joins}
use Rattle.replay.specs.InPlace.{TermsOf, index_at, data_at}
use Rattle.replay.specs.declared.gathering.DataFrame.{DataFrame}
use Rattle.replay.specs.Gather.{frame_with, frame_found, FrameHere}
use Rattle.replay.proofs.InPlace.{data-found, data-by, data-says}

-- ---- a data frame of the log, by its numbers

-- a frame that has a length is found
frame-some : (frame : List ℕ) (index n : ℕ) → 0 < n → Some (record { index = index; length = n; flags = flags_at frame; session = session_at frame }) ≡ frame_with frame index n
frame-some frame index zero h = absurd (omega arith)
frame-some frame index (suc n) h = refl

module _ (log : List ℕ) (term stop p : ℕ) (t : TermsOf (length log) term) where
  -- it lies whole in the log
  data-whole : (n : ℕ) → 0 < term → frame_at (drop (index_at term p) log) (term - p % term) ≡ Data n → index_at term p + n ≤ length log
  data-whole n some d =
      let k : p / term % 3 ≤ 2 = omega arith in
      let m : p / term % 3 * term ≤ 2 * term = mul-le-mul_right term k in
      omega (arith, mod-lt p some, t.three some, (lies _ _ (Data n) d refl).inside)

  pub data-framed : (n : ℕ) → 0 < term → frame_at (drop (index_at term p) log) (term - p % term) ≡ Data n → Framed log (index_at term p) × (n ≡ u32 (drop (index_at term p) log))
  data-framed n some d =
      let q = data-says (drop (index_at term p) log) (term - p % term) n d in
      (record { finished = q.finished; header = omega (arith, q.word, (lies _ _ (Data n) d refl).header); whole = omega (arith, q.word, data-whole n some d) }, q.word)

  module _ (l : p < stop) (some : 0 < term) (e : p % 32 ≡ 0) where
    abbrev i : ℕ
    i = index_at term p

    abbrev m : ℕ
    m = data_length (frame_at (drop i log) (term - p % term))

    -- with the index where it lies
    abbrev pub placed_at : FragmentHeader → DataFrame
    placed_at x = record { index = i; length = x.length; flags = x.flags; session = x.session }

    is-data : m ≡ data_at log term stop p
    is-data = data-by log term stop p l some e

    pub fragment-found : option_map placed_at (fragment_at log i (term - p % term)) ≡ frame_found log term stop p
    fragment-found =
        split m 0
        (λ h. let e : 0 ≡ data_at log term stop p = omega (arith, is-data, h) in
        ap (option_map placed_at) (sym (fragment-none log i (term - p % term) (omega (arith, h)))) ∙ ap (frame_with (drop i log) i) e)
        (λ h. ap (option_map placed_at) (sym (fragment-so log i (term - p % term) h (data-whole m some (data-found log term stop p m (sym is-data) h).frame)))
        ∙ frame-some (drop i log) i m h ∙ ap (frame_with (drop i log) i) is-data)

-- what is found, by its numbers
pub frame_none : (log : List ℕ) (term stop p : ℕ) → None ≡ frame_found log term stop p → data_at log term stop p ≡ 0
frame_none log term stop p = go (data_at log term stop p)
  where
    go : (n : ℕ) → None ≡ frame_with (drop (index_at term p) log) (index_at term p) n → n ≡ 0
    go zero e = refl
    go (suc n) e = absurd (none-some _ e)

pub frame-here : (log : List ℕ) (term stop p : ℕ) (f : DataFrame) → Some f ≡ frame_found log term stop p → (f.length ≡ data_at log term stop p) × ((0 < f.length) × FrameHere log term p f)
frame-here log term stop p f e =
    let k = go (data_at log term stop p) e in
    (k.0, (k.1.0, record { frame = (data-found log term stop p f.length (sym k.0) k.1.0).frame; index_is = k.1.1.0; flags-are = k.1.1.1.0; session-is = k.1.1.1.1 }))
  where
    frame· : List ℕ
    frame· = drop (index_at term p) log

    go : (n : ℕ) → Some f ≡ frame_with frame· (index_at term p) n → (f.length ≡ n) × ((0 < f.length) × ((f.index ≡ index_at term p) × ((f.flags ≡ flags_at frame·) × (f.session ≡ session_at frame·))))
    go zero q = absurd (none-some _ (sym q))
    go (suc n) q =
        let s : f ≡ record { index = index_at term p; length = suc n; flags = flags_at frame·; session = session_at frame· } = same_Some _ _ q in
        let l : f.length ≡ suc n = ap (λ (x : DataFrame). x.length) s in
        (l, (omega (arith, l), (ap (λ (x : DataFrame). x.index) s, (ap (λ (x : DataFrame). x.flags) s, ap (λ (x : DataFrame). x.session) s))))

-- ---- a body, laid

-- a session that is entered at its place is found there
pub place_kept : (ids : List ℤ) (e m : ℕ) (z : ℤ) (k : ℕ) → place_in (take e ids) z ≡ k → k < length ids → k < m → place_in (take m (set ids k z)) z ≡ k
unfolding place_in
place_kept [] e m z k q h l = absurd (omega arith)
place_kept (x ∷ xs) e zero z k q h l = absurd (omega arith)
place_kept (x ∷ xs) e (suc m) z zero q h l = cond-true (eqb (word z) (word z)) 0 (suc (place_in (take m xs) z)) (eq-eqb (word z) (word z) refl)
place_kept (x ∷ xs) zero (suc m) z (suc k) q h l = absurd (omega (arith, q))
place_kept (x ∷ xs) (suc e) (suc m) z (suc k) q h l = go (λ r. place_kept xs e m z k r (omega arith) (omega arith)) (eqb (word x) (word z)) q
  where
    go : (place_in (take e xs) z ≡ k → place_in (take m (set xs k z)) z ≡ k) → (b : Bool) → cond b 0 (suc (place_in (take e xs) z)) ≡ suc k → cond b 0 (suc (place_in (take m (set xs k z)) z)) ≡ suc k
    go ih true r = absurd (omega (arith, r))
    go ih false r = ap suc (ih (omega (arith, r)))

pub entered-past : (count k : ℕ) → k < 16 → k < min (entered_with count k) 16
entered-past count k h =
    split (min count 16) k (λ l. omega (arith, entered-new (min count 16) count k refl l h, h)) (λ l. omega (arith, entered-before (min count 16) count k refl l, h))

module _ (count place bytes : ℕ) (ids : List ℤ) (held buffer log : List ℕ) (i at : ℕ) where
  abbrev frame : List ℕ
  frame = drop i log

  abbrev z : ℤ
  z = session_at frame

  abbrev f : ℕ
  f = flags_at frame

  abbrev n : ℕ
  n = body_length frame

  abbrev from : ℕ
  from = behind bytes f

  abbrev part : ℕ
  part = part_length (length buffer)

  -- the sessions, with the number that is at hand
  abbrev pub AtHand : Sessions
  AtHand = sessions_as count ids (set held place bytes)

  -- and as a frame leaves them
  abbrev pub After : ℕ → Sessions
  After m = sessions_as (entered_with count place) (set ids place z) (set held place m)

  abbrev pub Spliced : List ℕ
  Spliced = splice buffer (place * part + from) (take n (drop 32 frame))

  module _ (framed : Framed log i) (small : at ≤ 4294967295) (l16 : length ids ≡ 16) (here : place ≡ place_in (take (min count 16) ids) z) (now : bytes ≡ get_or (set held place bytes) place 0)
      (laid : Lying count place bytes f n (length log) (length buffer) (i + 32)) where
    found : get_or (set held place bytes) (place_of AtHand z) 0 ≡ bytes
    found = ap (λ (k : ℕ). get_or (set held place bytes) k 0) (sym here) ∙ sym now

    leaves : (m : ℕ) → holding AtHand place z m ≡ After m
    leaves m =
        sym (held_by AtHand place z m (entered_with count place) laid.in-16 refl ∙ held_in AtHand place z m laid.in-16)
        ∙ ap (λ (h : List ℕ). sessions_as (entered_with count place) (set ids place z) h) (set-set held place bytes m)

    abbrev Does : Joining → Assembly
    Does = joined AtHand buffer frame at

    is : Does (cond (ends f) (Complete place from) (Join place from)) ≡ join_of AtHand buffer log i at
    is =
        ap₂ (λ (k b : ℕ). Does (cond (ends f) (Complete k (behind b f)) (Join k (behind b f)))) here (sym found)
        ∙ laid-joins AtHand buffer log i at framed small l16 (subst (λ (k : ℕ). Lying count k (get_or (set held place bytes) (place_of AtHand z) 0) f n (length log) (length buffer) (i + 32)) here
        (subst (λ (b : ℕ). Lying count place b f n (length log) (length buffer) (i + 32)) (sym found) laid))

    pub lay-goes : ends f ≡ false → join_of AtHand buffer log i at ≡ record { answer = Ok Nothing; next = After (from + n); buffer = Spliced }
    lay-goes e =
        sym is ∙ ap Does (cond-false (ends f) (Complete place from) (Join place from) e) ∙ ap {B = Assembly} (λ (t : Sessions). record { answer = Ok Nothing; next = t; buffer = Spliced }) (leaves (from + n))

    pub lay-ends : ends f ≡ true → join_of AtHand buffer log i at ≡ record { answer = Ok (Message (place * part) (from + n)); next = After 0; buffer = Spliced }
    lay-ends e =
        sym is ∙ ap Does (cond-true (ends f) (Complete place from) (Join place from) e)
        ∙ ap {B = Assembly} (λ (t : Sessions). record { answer = Ok (Message (place * part) (from + n)); next = t; buffer = Spliced }) (leaves 0)

    -- its place is the session's still
    pub lay-place : place ≡ place_in (take (min (entered_with count place) 16) (set ids place z)) z
    lay-place = sym (place_kept ids (min count 16) (min (entered_with count place) 16) z place (sym here) (omega (arith, l16, laid.in-16)) (entered-past count place laid.in-16))

-- ---- what was laid, by what is left of it

module _ (count place held flags n : ℕ) (log buffer : List ℕ) (i : ℕ) (r : Option Laid) (e : r ≡ laid_of count place held flags n (length log) (length buffer) (i + 32)) (c : List ℕ)
    (q : c ≡ laid_bytes count place held flags n log buffer (i + 32)) where
  abbrev L : Bool
  L = is_laid count place held flags n (length log) (length buffer) (i + 32)

  pub laid-is : (w : Laid) → r ≡ Some w → (L ≡ true) × ((w.held ≡ behind held flags + n) × (w.ends ≡ ends flags))
  laid-is w h =
      let k = cond_some L (record { held = behind held flags + n; ends = ends flags }) w (sym e ∙ h) in
      (k.0, (ap (λ (y : Laid). y.held) (sym k.1), ap (λ (y : Laid). y.ends) (sym k.1)))

  pub laid_none : r ≡ None → L ≡ false
  laid_none h = go L refl
    where
      go : (b : Bool) → L ≡ b → L ≡ false
      go true t = absurd (none-some _ (sym h ∙ e ∙ cond-true L (Some (record { held = behind held flags + n; ends = ends flags })) None t))
      go false t = t

  pub bytes-are : L ≡ true → c ≡ splice buffer (place * part_length (length buffer) + behind held flags) (take n (drop 32 (drop i log)))
  bytes-are t =
      q ∙ cond-true L _ buffer t ∙ ap (λ (l : List ℕ). splice buffer (place * part_length (length buffer) + behind held flags) (take n l)) (sym (drop-drop 32 i log))

  pub bytes-stay : L ≡ false → c ≡ buffer
  bytes-stay t = q ∙ cond-false L (splice buffer (place * part_length (length buffer) + behind held flags) (take n (drop (i + 32) log))) buffer t
