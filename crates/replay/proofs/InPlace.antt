-- A data frame that is found as it lies is the fragment that a poll of one gives; a whole message is the reply that it leads to.
use Rattle.std.specs.Prelude.{is_err, Option, Some, Result, Ok, Err}
use Rattle.std.specs.Option.{option_map}
use Rattle.std.proofs.lemmas.Option.{same_Some}
use Prim.Native.Nat.{ℕ, zero, suc, ◌+◌, ◌-◌, ◌*◌, ◌/◌, ◌%◌, ◌≤◌, ◌<◌, min}
use mathlib.Core.Path.{◌≡◌, refl, sym, ap, ap₂, ◌∙◌, subst}
use mathlib.Core.Bool.{Bool, true, false, cond, ◌&&◌, not}
use mathlib.Core.List.{List, [], ◌∷◌}
use native.Mathlib.Nat.{mod-lt, mul-le-mul_right, mod-mod_of_dvd, dvd_of_mod-eq-zero}
use native.Mathlib.Omega.{arith}
use Rattle.logbuffer.specs.Assembler.{join_of}
use Rattle.logbuffer.specs.Whole.{data_length, length_found, whole_frame}
use Rattle.logbuffer.proofs.Whole.{whole-as}
use Rattle.logbuffer.proofs.Fragments.{data-only}
use Rattle.logbuffer.proofs.Assembly.{join-yes}
use borrow.Author.Tests.{ne_eqb, le-leb, lt-leb, lt-ltb, le-ltb, eq-eqb, ltb-true, eqb-true, leb-true}
use lib.Dec.{eqb, leb, ltb}
use lib.IntN.{ℤ, pos, negsuc, neg_ℤ, ◌+ℤ◌, ◌*ℤ◌}
use lib.Signed.{lt_z}
use mir.Syntax.{w32}
use mir.Val.{to_z, SFits}
use mir.ValLaws.{of_z_fits}
use mir.Facts.{to_z_pos, to_z-neg}
use lib.ListN.{length, drop, get_or, length-set}
use Rattle.model.specs.declared.LogRecord.{LogRecord}
use Rattle.model.specs.declared.Reading.{Reading}
use Rattle.model.specs.declared.Frame.TheVariants.{Unsound, Padding, Data}
use Rattle.model.specs.declared.ReadVerdict.{ReadVerdict}
use Rattle.model.specs.declared.ReadVerdict.TheVariants.{Read}
use Rattle.model.specs.declared.FrameLength.{FrameLength}
use Rattle.model.specs.declared.FrameLength.TheVariants.{Free, Writing, Finished}
use Rattle.model.specs.declared.Polled.{Polled}
use Rattle.model.specs.declared.Error.{Error}
use Rattle.model.specs.declared.Assembled.{Assembled}
use Rattle.model.specs.declared.Assembled.TheVariants.{Nothing, Fragment, Message}
use Rattle.model.specs.declared.Joining.{Joining}
use Rattle.model.specs.declared.Joining.TheVariants.{Through, Ignore, Full, TooLong, Join, Complete}
use Rattle.model.specs.declared.Replayed.TheVariants.{InLog, InBuffer, End}
use Rattle.model.specs.Bytes.{long, u32}
use Rattle.model.specs.DataFrameHeader.{header_at}
use Rattle.model.specs.FrameDescriptor.{align, is_finished, length_at, unsound_length, frame_by, frame_at, flags_at, begins, ends}
use Rattle.model.specs.LogBufferDescriptor.{id_minus, active, reading_of, reading, publisher_position, sound, greatest, partition_of, good_position}
use Rattle.model.specs.TermReader.{natural, Walked, still, handed, walk, good_entries, laid, numbers}
use Rattle.model.specs.Image.{Image, PollReply, moved_to, readable, walk_at, unsound_at, poll_reply, poll_verdict, poll_of}
use Rattle.model.specs.FragmentAssembler.{Sessions, Assembly, session_at, body_length, sessions_by, holding, assembled_by, joining, joined, joined_at, good_assembly, assemble_verdict, assemble_by, assemble_of}
use Rattle.model.specs.Replay.{ReplayState, NextReply, giving, assembled_to, poll_one, is_over, next_of}
use Rattle.model.proofs.Both.{and-true, and-false, both_true}
use Rattle.model.proofs.Choice.{cond-true, cond-false, cond-case, split}
use Rattle.model.proofs.FrameLaws.{Lies, lies, finished-word}
use Rattle.model.proofs.WalkLaws.{walk_turn, walk-full}
use Rattle.model.proofs.Sound.{sound-true, term-32, id-small, initial-small}
use Rattle.image.proofs.Rungs.{position-by, in-range, poll-by}
use Rattle.image.proofs.Places.{at_place}
use Rattle.replay.specs.InPlace.{TermOrNone, TermsOf, stop_at, index_at, data_at, whole_at, open_term, whole_of, whole_with, whole_in as whole_told, over_by, kept_as, replied_by, is_refused}
use Rattle.replay.specs.declared.frames.Whole.{Whole}
use Rattle.replay.proofs.Turns.{next-stops, next-from, refused-keeps}
use Rattle.replay.proofs.Again.{assembled-long}
use Rattle.replay.specs.Replays.{elsewhere_on, Turned, stops, goes_on, fragment_turn, turn_said, turn_of}

-- ---- what the tests say

pub record DataAt (log : List ℕ) (term stop p n : ℕ) : Type 0 where
  pub below : p < stop
  pub some : 0 < term
  pub p-32 : p % 32 ≡ 0
  pub frame : frame_at (drop (index_at term p) log) (term - p % term) ≡ Data n

pub data-found : (log : List ℕ) (term stop p n : ℕ) → data_at log term stop p ≡ n → 0 < n → DataAt log term stop p n
unfolding data_at
data-found log term stop p n e h =
    cond-case (λ (m : ℕ). m ≡ n → DataAt log term stop p n) (ltb p stop && (ltb 0 term && eqb (p % 32) 0)) (data_length (frame_at (drop (index_at term p) log) (term - p % term))) 0
    (λ t q. let a = and-true (ltb p stop) _ t in
    let b = and-true (ltb 0 term) (eqb (p % 32) 0) a.1 in
    record { below = ltb-true _ _ a.0; some = ltb-true _ _ b.0; p-32 = eqb-true _ _ b.1; frame = data-only _ n q h })
    (λ t q. absurd (omega arith)) e

-- by the tests of the code
module _ (log : List ℕ) (term stop p : ℕ) where
  abbrev length· : ℕ
  length· = data_length (frame_at (drop (index_at term p) log) (term - p % term))

  none : (a b c : Bool) → (a && (b && c)) ≡ false → 0 ≡ cond (a && (b && c)) length· 0
  none a b c h = sym (cond-false (a && (b && c)) length· 0 h)

  pub data-past : stop ≤ p → 0 ≡ data_at log term stop p
  unfolding data_at
  data-past h = none (ltb p stop) (ltb 0 term) (eqb (p % 32) 0) (ap (λ (b : Bool). b && (ltb 0 term && eqb (p % 32) 0)) (le-ltb p stop h))

  pub data-empty : term ≡ 0 → 0 ≡ data_at log term stop p
  unfolding data_at
  data-empty h = none (ltb p stop) (ltb 0 term) (eqb (p % 32) 0) (ap (λ (b : Bool). ltb p stop && (b && eqb (p % 32) 0)) (le-ltb 0 term (omega arith)) ∙ and-false (ltb p stop))

  pub data-off : ¬ (p % 32 ≡ 0) → 0 ≡ data_at log term stop p
  unfolding data_at
  data-off h =
      none (ltb p stop) (ltb 0 term) (eqb (p % 32) 0)
      (ap (λ (b : Bool). ltb p stop && (ltb 0 term && b)) (ne_eqb (p % 32) 0 h) ∙ ap (λ (b : Bool). ltb p stop && b) (and-false (ltb 0 term)) ∙ and-false (ltb p stop))

  pub data-by : p < stop → 0 < term → p % 32 ≡ 0 → length· ≡ data_at log term stop p
  unfolding data_at
  data-by h k e = sym (cond-true (ltb p stop && (ltb 0 term && eqb (p % 32) 0)) _ 0 (both_true (lt-ltb p stop h) (both_true (lt-ltb 0 term k) (eq-eqb (p % 32) 0 e))))

  abbrev frame· : List ℕ
  frame· = drop (index_at term p) log

  -- no frame is no whole message
  pub whole-none : data_at log term stop p ≡ 0 → 0 ≡ whole_at log term stop p
  unfolding whole_at
  whole-none e = sym (ap (λ (n : ℕ). cond (begins (flags_at frame·) && ends (flags_at frame·)) n 0) e ∙ either (begins (flags_at frame·) && ends (flags_at frame·)))
    where
      either : (b : Bool) → ◌≡◌ {A = ℕ} (cond b 0 0) 0
      either true = refl
      either false = refl

  -- a header has room at the place of a frame
  inside : TermsOf (length log) term → 0 < term → p % 32 ≡ 0 → index_at term p + 32 ≤ length log
  inside t h e =
      let u : p % term % 32 ≡ 0 = mod-mod_of_dvd 32 p (dvd_of_mod-eq-zero 32 t.term-32) ∙ e in
      let k : p / term % 3 ≤ 2 = omega arith in
      let m : p / term % 3 * term ≤ 2 * term = mul-le-mul_right term k in
      omega (arith, mod-lt p h, t.term-32, t.three h)

  pub whole_in : TermsOf (length log) term → p < stop → 0 < term → p % 32 ≡ 0 → whole_frame log (index_at term p) (term - p % term) ≡ whole_at log term stop p
  unfolding whole_at
  whole_in t l h e =
      sym (whole-as log (index_at term p) (term - p % term) (inside t h e)) ∙ ap (λ (n : ℕ). cond (begins (flags_at frame·) && ends (flags_at frame·)) n 0) (data-by l h e)

pub record WholeAt (log : List ℕ) (term stop p n : ℕ) : Type 0 where
  pub found : DataAt log term stop p n
  pub begins-so : begins (flags_at (drop (index_at term p) log)) ≡ true
  pub ends_so : ends (flags_at (drop (index_at term p) log)) ≡ true

pub whole-found : (log : List ℕ) (term stop p n : ℕ) → whole_at log term stop p ≡ n → 0 < n → WholeAt log term stop p n
unfolding whole_at
whole-found log term stop p n e h =
    let f = flags_at (drop (index_at term p) log) in
    cond-case (λ (m : ℕ). m ≡ n → WholeAt log term stop p n) (begins f && ends f) (data_at log term stop p) 0
    (λ t q. let a = and-true (begins f) (ends f) t in
    record { found = data-found log term stop p n q h; begins-so = a.0; ends_so = a.1 })
    (λ t q. absurd (omega arith)) e

-- ---- the publisher's position

-- a number is below it, or is not
below-stop : (a : ℕ) (z : ℤ) → lt_z (pos a) z ≡ ltb a (natural z)
below-stop a (pos e) = refl
below-stop a (negsuc e) = sym (le-ltb a 0 (omega arith))

pub over-is : (r : LogRecord) (log : List ℕ) (z : ℤ) → is_over r log z ≡ over_by (reading r) (length log) (long z)
unfolding over_by
over-is r log z = ap (λ (b : Bool). sound (reading r) (length log) && (good_position (reading r) (long z) && not b)) (below-stop (long z) (publisher_position (reading r)))

-- the numbers that it is worked out from, of a record as it is read
term-small : (r : LogRecord) → SFits w32 r.term_length → (reading r).term < 4294967296
unfolding reading_of
term-small r f = (of_z_fits w32 r.term_length f).fits

pub readings : (r : LogRecord) (v : Reading) → v ≡ reading r → SFits w32 r.term_length → (v.id < 4294967296) × ((v.initial < 4294967296) × (v.term < 4294967296))
readings r v e f =
    subst (λ (x : Reading). (x.id < 4294967296) × ((x.initial < 4294967296) × (x.term < 4294967296))) (sym e) (id-small r (active r), (initial-small r (active r), term-small r f))

-- by the rows, as the code judges them
module _ (v : Reading) (n p : ℕ) where
  pub over-unsound : sound v n ≡ false → false ≡ over_by v n p
  unfolding over_by
  over-unsound h = sym (ap (λ (b : Bool). b && (good_position v p && not (ltb p (stop_at v)))) h)

  bad : good_position v p ≡ false → false ≡ over_by v n p
  unfolding over_by
  bad h = sym (ap (λ (b : Bool). sound v n && (b && not (ltb p (stop_at v)))) h ∙ and-false (sound v n))

  pub over-high : greatest v < p → false ≡ over_by v n p
  over-high h = bad (ap (λ (b : Bool). b && eqb (p % 32) 0) (lt-leb p (greatest v) h))

  pub over-off : ¬ (p % 32 ≡ 0) → false ≡ over_by v n p
  over-off h = bad (ap (λ (b : Bool). leb p (greatest v) && b) (ne_eqb (p % 32) 0 h) ∙ and-false (leb p (greatest v)))

  pub over_by_lem : sound v n ≡ true → p ≤ greatest v → p % 32 ≡ 0 → not (ltb p (stop_at v)) ≡ over_by v n p
  unfolding over_by
  over_by_lem s h e = sym (ap₂ (λ (a b : Bool). a && (b && not (ltb p (stop_at v)))) s (both_true (le-leb p (greatest v) h) (eq-eqb (p % 32) 0 e)))

-- by the term's count, as the code works it out
under-zero : (m o : ℕ) → o ≤ m → natural (neg_ℤ (pos m) +ℤ pos o) ≡ 0
under-zero zero o h = omega arith
under-zero (suc m) o h = go (ltb o (suc m))
  where
    go : (b : Bool) → natural (cond b (negsuc (suc m - suc o)) (pos (o - suc m))) ≡ 0
    go true = refl
    go false = omega arith

pub stop-none : (v : Reading) → 2147483647 < id_minus v.id v.initial → 0 ≡ stop_at v
stop-none v h =
    let d = id_minus v.id v.initial in
    let k = 4294967296 - suc d in
    let e : 4294967296 - suc k ≡ d = omega arith in
    let z : to_z w32 d ≡ negsuc k = ap (to_z w32) (sym e) ∙ to_z-neg w32 k (omega arith) in
    let l : 1 * v.term ≤ suc k * v.term = mul-le-mul_right v.term (omega arith) in
    sym (ap (λ (x : ℤ). natural (x *ℤ pos v.term +ℤ pos (min v.offset v.term))) z ∙ under-zero (suc k * v.term) (min v.offset v.term) (omega arith))

pub stop-by : (v : Reading) (e : ℕ) → id_minus v.id v.initial ≤ 2147483647 → e ≡ min v.offset v.term → id_minus v.id v.initial * v.term + e ≡ stop_at v
stop-by v e h q =
    ap (λ (o : ℕ). id_minus v.id v.initial * v.term + o) q
    ∙ sym (ap (λ (x : ℤ). natural (x *ℤ pos v.term +ℤ pos (min v.offset v.term))) (to_z_pos w32 (omega arith)))

-- and it is no greater than any position may be
pub stop-high : (v : Reading) → stop_at v ≤ greatest v
stop-high v =
    split (id_minus v.id v.initial) 2147483647
    (λ l. let m : id_minus v.id v.initial * v.term ≤ 2147483647 * v.term = mul-le-mul_right v.term l in
    omega (arith, sym (stop-by v (min v.offset v.term) l refl)))
    (λ l. omega (arith, stop-none v l))

pub record Open (i : Image) (v : Reading) (n lent term : ℕ) : Type 0 where
  pub lent-so : lent ≤ 2147483647
  pub is_open : i.closed ≡ false
  pub sound-so : sound v n ≡ true
  pub term_is : v.term ≡ term

not_so : (b : Bool) → not b ≡ true → b ≡ false
not_so true h = absurd (let z : ◌≡◌ {A = ℕ} 0 1 = cc in omega arith)
not_so false h = refl

pub open-found : (i : Image) (v : Reading) (n lent term : ℕ) → open_term i v n lent ≡ term → 0 < term → Open i v n lent term
unfolding open_term
open-found i v n lent term e h =
    cond-case (λ (m : ℕ). m ≡ term → Open i v n lent term) (leb lent 2147483647 && (not i.closed && sound v n)) v.term 0
    (λ t q. let a = and-true (leb lent 2147483647) _ t in
    let b = and-true (not i.closed) (sound v n) a.1 in
    record { lent-so = leb-true _ _ a.0; is_open = not_so i.closed b.0; sound-so = b.1; term_is = q })
    (λ t q. absurd (omega arith)) e

-- what a data frame says of its length word
pub record DataSays (s : List ℕ) (room n : ℕ) : Type 0 where
  pub finished : is_finished (length_at s) ≡ true
  pub word : n ≡ u32 s
  pub sound-so : unsound_length n room ≡ false

says-by : (t room n : ℕ) (x : FrameLength) → frame_by t room x ≡ Data n → (x ≡ Finished n) × (unsound_length n room ≡ false)
says-by t room n Free e = absurd (let z : ◌≡◌ {A = ℕ} 0 1 = cc in omega arith)
says-by t room n (Writing m) e = absurd (let z : ◌≡◌ {A = ℕ} 0 1 = cc in omega arith)
says-by t room n (Finished m) e = go (unsound_length m room) (eqb t 0) refl e
  where
    go : (a b : Bool) → unsound_length m room ≡ a → cond a (Unsound m) (cond b (Padding m) (Data m)) ≡ Data n → (Finished m ≡ Finished n) × (unsound_length n room ≡ false)
    go true b q e = absurd (let z : ◌≡◌ {A = ℕ} 0 1 = cc in omega arith)
    go false true q e = absurd (let z : ◌≡◌ {A = ℕ} 0 1 = cc in omega arith)
    go false false q e = let f : m ≡ n = cc in (ap Finished f, ap (λ (x : ℕ). unsound_length x room) (sym f) ∙ q)

pub data-says : (s : List ℕ) (room n : ℕ) → frame_at s room ≡ Data n → DataSays s room n
unfolding frame_at
data-says s room n e =
    let q = says-by (header_at s).type room n (length_at s) e in
    record { finished = ap is_finished q.0; word = (finished-word (u32 s) n q.0).0; sound-so = q.1 }

-- ---- a poll of one at a data frame

module _ (r : LogRecord) (log : List ℕ) (s : ReplayState) (n : ℕ) (sound-so : sound (reading r) (length log) ≡ true) (is_open : s.image.closed ≡ false)
    (d : DataAt log (reading r).term (stop_at (reading r)) (long s.image.position) n) where
  abbrev v : Reading
  v = reading r

  abbrev T : ℕ
  T = v.term

  abbrev i : Image
  i = s.image

  abbrev p : ℕ
  p = long i.position

  abbrev k : ℕ
  k = partition_of p T

  some : 0 < T
  some = d.some

  seen : frame_at (drop (k * T + p % T) log) (T - p % T) ≡ Data n
  seen = d.frame

  high : p ≤ greatest v
  high = omega (arith, d.below, stop-high v)

  -- the replay is not over
  on : is_over r log i.position ≡ false
  unfolding over_by
  on =
      over-is r log i.position
      ∙ ap (λ (b : Bool). sound v (length log) && (good_position v p && not b)) (lt-ltb p (stop_at v) d.below)
      ∙ ap (λ (b : Bool). sound v (length log) && b) (and-false (good_position v p)) ∙ and-false (sound v (length log))

  long-so : Lies n (T - p % T)
  long-so = lies _ _ (Data n) seen refl

  under : p % T < T
  under = mod-lt p some

  one : (f : ℕ) → T ≡ suc f → walk_at v log p T 1 [] ≡ handed (p % T) n (ends (flags_at (drop (k * T + p % T) log))) still
  one f e =
      ap (λ (x : ℕ). walk x log (k * T) T T (p % T) 1 []) e
      ∙ walk_turn log (k * T) T T f (p % T) 0 [] (Data n) under seen
      ∙ ap (handed (p % T) n (ends (flags_at (drop (k * T + p % T) log)))) (walk-full log (k * T) T T f (p % T + align n) [])

  walked : walk_at v log p T 1 [] ≡ handed (p % T) n (ends (flags_at (drop (k * T + p % T) log))) still
  walked = let e : T ≡ suc (T - 1) = omega (arith, some) in one (T - 1) e

  no-unsound : unsound_at v log p T 1 ≡ false
  no-unsound = rw seen (and_no (ltb (p % T) T))
    where
      and_no : (b : Bool) → (b && false) ≡ false
      and_no true = refl
      and_no false = refl

  let-in : (Ok Read) ≡ readable (good_entries 2 1) v (length log) i (Ok Read)
  let-in =
      let g : good_position v p ≡ true = in-range v p p refl high d.p-32 in
      position-by (good_entries 2 1) v (length log) i true g refl sound-so is_open (Ok Read)

  judged : (Ok Read) ≡ poll_verdict v log i (good_entries 2 1) T 1
  judged = poll-by v log i (good_entries 2 1) T 1 false no-unsound let-in

  abbrev moved : Image
  moved = moved_to i (pos (p + align n))

  pub data-poll : poll_one r log i ≡ record { answer = Ok (record { fragments = 1; entries = 1 }); next = moved; slots = pos (p % T + 32) ∷ pos (n - 32) ∷ [] }
  unfolding poll_of laid numbers
  data-poll =
      ap₂ (λ (w : Walked) (x : Result ReadVerdict Error). poll_reply i (pos 0 ∷ pos 0 ∷ []) w x) walked (sym judged)
      ∙ ap (λ (m : ℕ). record { answer = Ok (record { fragments = 1; entries = 1 }); next = moved_to i (pos (p + m)); slots = pos (p % T + 32) ∷ pos (n - 32) ∷ [] }) (let z : align n + 0 ≡ align n = omega arith in z)

  -- ---- and the assembler is given that frame

  module _ (lent-so : length s.buffer ≤ 2147483647) where
    abbrev joined· : Assembly
    joined· = joined_at s.sessions s.buffer (drop (k * T + p % T) log) (p % T)

    passes : assemble_verdict v log (length s.buffer) k (p % T) ≡ Ok tt
    unfolding assemble_verdict
    passes =
        let q = data-says (drop (k * T + p % T) log) (T - p % T) n seen in
        let a = at_place v (length log) p sound-so d.p-32 in
        let g : good_assembly v log (length s.buffer) k (p % T) ≡ true =
        both_true (le-leb _ _ lent-so) (both_true (le-leb _ _ a.partition) (both_true (both_true (eq-eqb _ _ a.at-32) (both_true (le-leb (p % T + 1) T (omega (arith, a.below))) (le-leb T 2147483647 (omega (arith, a.term-high)))))
        (both_true (le-leb (k * T + p % T + 4) (length log) (omega (arith, a.inside, long-so.inside, long-so.header, a.below))) q.finished))) in
        let u : unsound_length (u32 (drop (k * T + p % T) log)) (T - p % T) ≡ false = ap (λ (x : ℕ). unsound_length x (T - p % T)) (sym q.word) ∙ q.sound-so in
        rw (g, sound-so, u)

    pub data-given : assemble_of r log s.sessions s.buffer (pos k) (pos (p % T)) ≡ joined·
    unfolding assemble_of
    data-given = ap (assemble_by s.sessions s.buffer (drop (k * T + p % T) log) (p % T)) passes

    -- the turn by a poll's reply
    abbrev by-poll : PollReply → Result Polled Error → Turned
    by-poll y (Err e) = stops s (Err e)
    by-poll y (Ok polled) =
        cond (eqb polled.entries 0)
        (cond (eqb (long y.next.position) p) (stops s (Ok End)) (goes_on (record { image = y.next; sessions = s.sessions; buffer = s.buffer })))
        (fragment_turn (k * T) s
        (assembled_to y.next (assemble_of r log s.sessions s.buffer (pos k) (pos (natural (get_or y.slots 0 (pos 0)) - 32))))
        (assemble_of r log s.sessions s.buffer (pos k) (pos (natural (get_or y.slots 0 (pos 0)) - 32))).answer)

    turn_is : (x : Result Polled Error) → turn_said r log s x ≡ by-poll (poll_one r log i) x
    turn_is (Err e) = refl
    turn_is (Ok polled) = refl

    -- so a turn here is the fragment's
    pub data-turn : turn_of r log s ≡ fragment_turn (k * T) s (assembled_to moved joined·) joined·.answer
    data-turn =
        cond-false (is_over r log i.position) (stops s (Ok End)) _ on
        ∙ turn_is (poll_one r log i).answer
        ∙ ap (λ (y : PollReply). by-poll y y.answer) data-poll
        ∙ ap (λ (a : Assembly). fragment_turn (k * T) s (assembled_to moved a) a.answer) (ap (λ (x : ℕ). assemble_of r log s.sessions s.buffer (pos k) (pos x)) (let z : p % T + 32 - 32 ≡ p % T = omega arith in z) ∙ data-given)

-- ---- a whole message passes through

through : (s : Sessions) (z : ℤ) (flags n part : ℕ) → begins flags ≡ true → ends flags ≡ true → joining s z flags n part ≡ Through
unfolding joining
through s z flags n part b e = cond-true (begins flags && ends flags) Through _ (both_true b e)

-- the reply that a whole message at the position gives, in a log of such terms
abbrev pub whole_reply : ℕ → ReplayState → ℕ → NextReply
whole_reply term s n =
    giving (record { image = moved_to s.image (pos (long s.image.position + align n)); sessions = s.sessions; buffer = s.buffer })
    (Ok (InLog (index_at term (long s.image.position) + 32) (n - 32)))

module _ (r : LogRecord) (log : List ℕ) (s : ReplayState) (n : ℕ) (sound-so : sound (reading r) (length log) ≡ true) (is_open : s.image.closed ≡ false) (lent-so : length s.buffer ≤ 2147483647)
    (w : WholeAt log (reading r).term (stop_at (reading r)) (long s.image.position) n) where
  abbrev T· : ℕ
  T· = (reading r).term

  abbrev p· : ℕ
  p· = long s.image.position

  abbrev x· : ℕ
  x· = index_at (reading r).term (long s.image.position)

  joins : joined_at s.sessions s.buffer (drop x· log) (p· % T·) ≡ record { answer = Ok (Fragment (p· % T· + 32) (n - 32)); next = s.sessions; buffer = s.buffer }
  joins =
      let q = data-says (drop x· log) (T· - p· % T·) n w.found.frame in
      ap (joined s.sessions s.buffer (drop x· log) (p· % T·)) (through s.sessions _ (flags_at (drop x· log)) _ _ w.begins-so w.ends_so)
      ∙ ap (λ (x : ℕ). record { answer = Ok (Fragment (p· % T· + 32) (x - 32)); next = s.sessions; buffer = s.buffer }) (sym q.word)

  whole-turn : turn_of r log s ≡ stops (whole_reply T· s n).next (Ok (InLog (x· + 32) (n - 32)))
  whole-turn =
      data-turn r log s n sound-so is_open w.found lent-so
      ∙ ap (λ (a : Assembly). fragment_turn (partition_of p· T· * T·) s (assembled_to (moved_to s.image (pos (p· + align n))) a) a.answer) joins
      ∙ ap (λ (x : ℕ). stops (whole_reply T· s n).next (Ok (InLog x (n - 32)))) (let y : partition_of p· T· * T· + (p· % T· + 32) ≡ x· + 32 = omega arith in y)

  pub whole-next : whole_reply T· s n ≡ next_of r log s
  whole-next =
      next-stops r log s _ (sym whole-turn) (suc (3 * T·)) (omega arith) (Ok (InLog (x· + 32) (n - 32))) refl ∙ next-from r log s lent-so

-- the same by the one number that says it
pub whole_says : (r : LogRecord) (log : List ℕ) (s : ReplayState) (n : ℕ) → whole_of r log s.image (length s.buffer) ≡ n → 0 < n → whole_reply (reading r).term s n ≡ next_of r log s
whole_says r log s n e h =
    let term = open_term s.image (reading r) (length log) (length s.buffer) in
    let stop = stop_at (reading r) in
    let w = whole-found log term stop (long s.image.position) n e h in
    let o = open-found s.image (reading r) (length log) (length s.buffer) term refl w.found.some in
    whole-next r log s n o.sound-so o.is_open o.lent-so (subst (λ (t : ℕ). WholeAt log t stop (long s.image.position) n) (sym o.term_is) w)

-- and its numbers are near, and its term is the record's
pub record Near (r : LogRecord) (i : Image) (term n : ℕ) : Type 0 where
  pub position : long i.position < 2305843009213693952
  pub header : 32 ≤ n
  pub small : n < 2147483648
  pub term-some : 0 < term
  pub term_is : term ≡ (reading r).term
  pub index : index_at term (long i.position) < 3221225472

pub whole-near : (r : LogRecord) (log : List ℕ) (i : Image) (lent n : ℕ) → whole_of r log i lent ≡ n → 0 < n → Near r i (open_term i (reading r) (length log) lent) n
whole-near r log i lent n e h =
    let term = open_term i (reading r) (length log) lent in
    let w = whole-found log term (stop_at (reading r)) (long i.position) n e h in
    let o = open-found i (reading r) (length log) lent term refl w.found.some in
    let k = sound-true _ _ o.sound-so in
    let y : Lies n (term - long i.position % term) = lies _ _ (Data n) w.found.frame refl in
    let b = stop-high (reading r) in
    let m : partition_of (long i.position) term * term ≤ 2 * term = mul-le-mul_right term (omega arith) in
    record {
      position = omega (arith, w.found.below, k.term-high);
      header = y.header;
      small = y.small;
      term-some = w.found.some;
      term_is = sym o.term_is;
      index = omega (arith, o.term_is, k.term-high, mod-lt (long i.position) w.found.some);
    }

-- what is found, by its length and its index
pub whole-some : (index n : ℕ) (w : Whole) → Some w ≡ whole_with index n → (n ≡ w.length) × ((w.index ≡ index) × (0 < w.length))
whole-some index zero w e = absurd cc
whole-some index (suc n) w e =
    let p : w ≡ record { index = index; length = suc n } = same_Some _ _ e in
    let q : w.length ≡ suc n = ap (λ (x : Whole). x.length) p in
    (sym q, (ap (λ (x : Whole). x.index) p, omega (arith, q)))

-- as the code puts it together
pub whole-put : (index n : ℕ) (o : Option ℕ) → o ≡ length_found n → option_map (λ (k : ℕ). record { index = index; length = k }) o ≡ whole_with index n
whole-put index zero o e = ap (option_map (λ (k : ℕ). record { index = index; length = k })) e
whole-put index (suc n) o e = ap (option_map (λ (k : ℕ). record { index = index; length = k })) e

-- the index matters where there is a length
pub whole-at : (i j n : ℕ) → (0 < n → i ≡ j) → whole_with i n ≡ whole_with j n
whole-at i j zero h = refl
whole-at i j (suc n) h = ap (λ (x : ℕ). whole_with x (suc n)) (h (omega arith))

-- one that was found where the image stands
pub record Told (r : LogRecord) (log : List ℕ) (i : Image) (lent p : ℕ) (w : Whole) : Type 0 where
  pub some : 0 < w.length
  pub said : whole_of r log i lent ≡ w.length
  pub position : p < 2305843009213693952
  pub header : 32 ≤ w.length
  pub small : w.length < 2147483648
  pub index_is : w.index ≡ index_at (reading r).term (long i.position)
  pub index_small : w.index < 3221225472

pub told : (r : LogRecord) (log : List ℕ) (i : Image) (lent p : ℕ) (w : Whole) → p ≡ long i.position → Some w ≡ whole_told r log i lent → Told r log i lent p w
told r log i lent p w ep ew =
    let f = whole-some (index_at (reading r).term (long i.position)) (whole_of r log i lent) w ew in
    let h = whole-near r log i lent w.length f.0 f.1.1 in
    let x : index_at (reading r).term (long i.position) ≡ index_at (open_term i (reading r) (length log) lent) (long i.position) = ap (λ (t : ℕ). index_at t (long i.position)) (sym h.term_is) in
    record {
      some = f.1.1;
      said = f.0;
      position = omega (arith, h.position, ep);
      header = h.header;
      small = h.small;
      index_is = f.1.0;
      index_small = omega (arith, f.1.0, x, h.index);
    }

-- an image that moves stays open
pub open-moved : (i : Image) (z : ℤ) (v : Reading) (n lent : ℕ) → open_term (moved_to i z) v n lent ≡ open_term i v n lent
unfolding open_term
open-moved i z v n lent = refl

-- ---- what the inner functions ask

pub open-terms : (i : Image) (v : Reading) (n lent : ℕ) → TermsOf n (open_term i v n lent)
unfolding open_term
open-terms i v n lent =
    cond-case (TermsOf n) (leb lent 2147483647 && (not i.closed && sound v n)) v.term 0
    (λ t. let k = sound-true v n (and-true (not i.closed) (sound v n) (and-true (leb lent 2147483647) _ t).1).1 in
    record { fits = record { high = k.term-high; one_bit = λ _. k.one_bit }; term-32 = term-32 v n k; three = λ _. omega (arith, k.three) })
    (λ t. record { fits = record { high = omega arith; one_bit = λ h. absurd (omega arith) }; term-32 = refl; three = λ h. absurd (omega arith) })

pub open-fits : (i : Image) (v : Reading) (n lent : ℕ) → TermOrNone (open_term i v n lent)
open-fits i v n lent = (open-terms i v n lent).fits

-- ---- by the tests of the code

module _ (i : Image) (v : Reading) (n lent : ℕ) where
  abbrev Opens : Bool
  Opens = leb lent 2147483647 && (not i.closed && sound v n)

  shut : Opens ≡ false → 0 ≡ open_term i v n lent
  unfolding open_term
  shut h = sym (cond-false Opens v.term 0 h)

  pub shut-lent : 2147483647 < lent → 0 ≡ open_term i v n lent
  shut-lent h = shut (ap (λ (b : Bool). b && (not i.closed && sound v n)) (lt-leb lent 2147483647 h))

  pub shut-closed : i.closed ≡ true → 0 ≡ open_term i v n lent
  shut-closed h = shut (ap (λ (b : Bool). leb lent 2147483647 && (not b && sound v n)) h ∙ and-false (leb lent 2147483647))

  pub shut-unsound : sound v n ≡ false → 0 ≡ open_term i v n lent
  shut-unsound h = shut (ap (λ (b : Bool). leb lent 2147483647 && (not i.closed && b)) h ∙ ap (λ (b : Bool). leb lent 2147483647 && b) (and-false (not i.closed)) ∙ and-false (leb lent 2147483647))

  pub opened : lent ≤ 2147483647 → i.closed ≡ false → sound v n ≡ true → v.term ≡ open_term i v n lent
  unfolding open_term
  opened h c s = sym (cond-true Opens v.term 0 (both_true (le-leb lent 2147483647 h) (both_true (ap not c) s)))

-- ---- a fragment given to the assembler's core

-- the library's question, by the definition
pub refused-is : (a : Result Assembled Error) → is_err a ≡ is_refused a
refused-is (Ok Nothing) = refl
refused-is (Ok (Fragment at n)) = refl
refused-is (Ok (Message at n)) = refl
refused-is (Err e) = refl

-- what passes through is the body that was asked for
passes-through : (at n part a m : ℕ) (x : Joining) → assembled_by at n part x ≡ Ok (Fragment a m) → (a ≡ at) × (m ≡ n)
passes-through at n part a m Through h = (cc, cc)
passes-through at n part a m Ignore h = absurd (let z : ◌≡◌ {A = ℕ} 0 1 = cc in omega arith)
passes-through at n part a m Full h = absurd (let z : ◌≡◌ {A = ℕ} 0 1 = cc in omega arith)
passes-through at n part a m (TooLong k) h = absurd (let z : ◌≡◌ {A = ℕ} 0 1 = cc in omega arith)
passes-through at n part a m (Join k from) h = absurd (let z : ◌≡◌ {A = ℕ} 0 1 = cc in omega arith)
passes-through at n part a m (Complete k from) h = absurd (let z : ◌≡◌ {A = ℕ} 0 1 = cc in omega arith)

-- as many ids as before
ids-long : (s : Sessions) (session : ℤ) (n : ℕ) (x : Joining) → length (sessions_by s session n x).ids ≡ length s.ids
unfolding holding
ids-long s session n Through = refl
ids-long s session n Ignore = refl
ids-long s session n Full = refl
ids-long s session n (TooLong k) = length-set s.ids k session
ids-long s session n (Join k from) = length-set s.ids k session
ids-long s session n (Complete k from) = length-set s.ids k session

-- the turn by the core's assembly, told by the index at which the frame lies
abbrev pub placed_turn : ReplayState → ReplayState → ℕ → ℕ → Result Assembled Error → Turned
placed_turn s t index n (Ok Nothing) = goes_on t
placed_turn s t index n (Ok (Fragment at m)) = stops t (Ok (InLog (index + 32) (n - 32)))
placed_turn s t index n (Ok (Message at m)) = stops t (Ok (InBuffer at m))
placed_turn s t index n (Err e) = stops s (Err e)

module _ (r : LogRecord) (log : List ℕ) (s : ReplayState) (n : ℕ) (sound-so : sound (reading r) (length log) ≡ true) (is_open : s.image.closed ≡ false) (lent-so : length s.buffer ≤ 2147483647)
    (d : DataAt log (reading r).term (stop_at (reading r)) (long s.image.position) n) (ids-16 : length s.sessions.ids ≡ 16) where
  abbrev T' : ℕ
  T' = (reading r).term

  abbrev p' : ℕ
  p' = long s.image.position

  abbrev x' : ℕ
  x' = index_at (reading r).term (long s.image.position)

  says : DataSays (drop x' log) (T' - p' % T') n
  says = data-says (drop x' log) (T' - p' % T') n d.frame

  frame-in : x' + n ≤ length log
  frame-in =
      let l : Lies n (T' - p' % T') = lies _ _ (Data n) d.frame refl in
      let a = at_place (reading r) (length log) p' sound-so d.p-32 in
      omega (arith, a.inside, a.below, l.inside)

  abbrev J : Assembly
  J = join_of s.sessions s.buffer log x' (p' % T')

  join_is : joined_at s.sessions s.buffer (drop x' log) (p' % T') ≡ J
  join_is =
      let l : Lies n (T' - p' % T') = lies _ _ (Data n) d.frame refl in
      let a = at_place (reading r) (length log) p' sound-so d.p-32 in
      join-yes s.sessions s.buffer log x' (p' % T')
      (record { finished = says.finished; header = omega (arith, l.header, says.word); whole = omega (arith, frame-in, says.word) })
      (omega (arith, a.below, a.term-high)) ids-16

  abbrev moved' : ReplayState
  moved' = assembled_to (moved_to s.image (pos (p' + align n))) J

  pub given-turn : (a : Result Assembled Error) → J.answer ≡ a → turn_of r log s ≡ placed_turn s moved' x' n a
  given-turn a e =
      data-turn r log s n sound-so is_open d lent-so
      ∙ ap (λ (y : Assembly). fragment_turn (partition_of p' T' * T') s (assembled_to (moved_to s.image (pos (p' + align n))) y) y.answer) join_is
      ∙ ap (fragment_turn (partition_of p' T' * T') s moved') e ∙ by a (ap (λ (y : Assembly). y.answer) join_is ∙ e)
    where
      by : (a : Result Assembled Error) → (joined_at s.sessions s.buffer (drop x' log) (p' % T')).answer ≡ a → fragment_turn (partition_of p' T' * T') s moved' a ≡ placed_turn s moved' x' n a
      by (Ok Nothing) h = refl
      by (Ok (Fragment at m)) h =
          let frame = drop x' log in
          let q = passes-through (p' % T' + 32) (u32 frame - 32) (length s.buffer / 16) at m (joining s.sessions (session_at frame) (flags_at frame) (u32 frame - 32) (length s.buffer / 16)) h in
          let w = says.word in
          let x : partition_of p' T' * T' + at ≡ x' + 32 = omega (arith, q.0) in
          let y : m ≡ n - 32 = omega (arith, q.1, w) in
          ap₂ (λ (i j : ℕ). stops moved' (Ok (InLog i j))) x y
      by (Ok (Message at m)) h = refl
      by (Err x) h = refl

  -- a refused fragment leaves the buffer
  pub refused-left : (e : Error) → J.answer ≡ Err e → J.buffer ≡ s.buffer
  refused-left e h =
      let g = data-given r log s n sound-so is_open d lent-so ∙ join_is in
      ap (λ (y : Assembly). y.buffer) (sym g) ∙ refused-keeps r log s.sessions s.buffer (pos (partition_of p' T')) (pos (p' % T')) e (ap (λ (y : Assembly). y.answer) g ∙ h)

  -- and any keeps the buffer's length and the ids'
  pub given-long : length J.buffer ≡ length s.buffer
  given-long =
      ap (λ (y : Assembly). length y.buffer) (sym (data-given r log s n sound-so is_open d lent-so ∙ join_is)) ∙ assembled-long r log s.sessions s.buffer (partition_of p' T') (p' % T')

  pub given-ids : length J.next.ids ≡ 16
  given-ids =
      let frame = drop x' log in
      ap (λ (y : Assembly). length y.next.ids) (sym join_is)
      ∙ ids-long s.sessions (session_at frame) (body_length frame) (joining s.sessions (session_at frame) (flags_at frame) (body_length frame) (length s.buffer / 16)) ∙ ids-16

-- the same turn by whether it was refused, and whether it goes on
pub placed-refused : (s t : ReplayState) (p n : ℕ) (a : Result Assembled Error) → is_refused a ≡ true → placed_turn s t p n a ≡ stops s (replied_by p n a)
placed-refused s t p n (Ok Nothing) h = absurd (let z : ◌≡◌ {A = ℕ} 0 1 = cc in omega arith)
placed-refused s t p n (Ok (Fragment at m)) h = absurd (let z : ◌≡◌ {A = ℕ} 0 1 = cc in omega arith)
placed-refused s t p n (Ok (Message at m)) h = absurd (let z : ◌≡◌ {A = ℕ} 0 1 = cc in omega arith)
placed-refused s t p n (Err e) h = refl

pub placed-stops : (s t : ReplayState) (p n : ℕ) (a : Result Assembled Error) → is_refused a ≡ false → elsewhere_on a ≡ false → placed_turn s t p n a ≡ stops t (replied_by p n a)
placed-stops s t p n (Ok Nothing) h k = absurd (let z : ◌≡◌ {A = ℕ} 0 1 = cc in omega arith)
placed-stops s t p n (Ok (Fragment at m)) h k = refl
placed-stops s t p n (Ok (Message at m)) h k = refl
placed-stops s t p n (Err e) h k = absurd (let z : ◌≡◌ {A = ℕ} 0 1 = cc in omega arith)

pub placed_on : (s t : ReplayState) (p n : ℕ) (a : Result Assembled Error) → elsewhere_on a ≡ true → placed_turn s t p n a ≡ goes_on t
placed_on s t p n (Ok Nothing) h = refl
placed_on s t p n (Ok (Fragment at m)) h = absurd (let z : ◌≡◌ {A = ℕ} 0 1 = cc in omega arith)
placed_on s t p n (Ok (Message at m)) h = absurd (let z : ◌≡◌ {A = ℕ} 0 1 = cc in omega arith)
placed_on s t p n (Err e) h = absurd (let z : ◌≡◌ {A = ℕ} 0 1 = cc in omega arith)

-- and the sessions
pub kept-not : (s t : Sessions) (a : Result Assembled Error) → is_refused a ≡ false → kept_as s t a ≡ t
kept-not s t (Ok Nothing) h = refl
kept-not s t (Ok (Fragment at m)) h = refl
kept-not s t (Ok (Message at m)) h = refl
kept-not s t (Err e) h = absurd (let z : ◌≡◌ {A = ℕ} 0 1 = cc in omega arith)

pub kept-so : (s t : Sessions) (a : Result Assembled Error) → is_refused a ≡ true → kept_as s t a ≡ s
kept-so s t (Ok Nothing) h = absurd (let z : ◌≡◌ {A = ℕ} 0 1 = cc in omega arith)
kept-so s t (Ok (Fragment at m)) h = absurd (let z : ◌≡◌ {A = ℕ} 0 1 = cc in omega arith)
kept-so s t (Ok (Message at m)) h = absurd (let z : ◌≡◌ {A = ℕ} 0 1 = cc in omega arith)
kept-so s t (Err e) h = refl

pub refusal-of : (a : Result Assembled Error) → is_refused a ≡ true → (e : Error) × (a ≡ Err e)
refusal-of (Ok Nothing) h = absurd (let z : ◌≡◌ {A = ℕ} 0 1 = cc in omega arith)
refusal-of (Ok (Fragment at m)) h = absurd (let z : ◌≡◌ {A = ℕ} 0 1 = cc in omega arith)
refusal-of (Ok (Message at m)) h = absurd (let z : ◌≡◌ {A = ℕ} 0 1 = cc in omega arith)
refusal-of (Err e) h = (e, refl)

-- where the frame of a data frame lies
pub data-lies : (log : List ℕ) (term stop p n : ℕ) → DataAt log term stop p n → Lies n (term - p % term)
data-lies log term stop p n d = lies _ _ (Data n) d.frame refl
