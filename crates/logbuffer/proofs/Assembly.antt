-- The rows of the assembler's entry point, and what a frame that passes them is.
use Rattle.std.specs.Prelude.{Result, Ok, Err, ⊤}
use Rattle.std.proofs.Common.{◌≡◌, ℕ, ◌+◌, ◌-◌, ◌*◌, ◌/◌, ◌<◌, ◌≤◌, Bool, true, false, ◌&&◌, ◌||◌, eqb, ltb, leb, List, [], ◌∷◌, length, get_or, take, drop, ℤ, sym, ap, ◌∙◌, ap₂, arith, get_or-drop, drop-drop, ltb-false, eq-eqb, le-leb, leb-false, leb-true}
use borrow.Author.Tests.{lt-leb}
use Rattle.model.specs.declared.LogRecord.{LogRecord}
use Rattle.model.specs.declared.Reading.{Reading}
use Rattle.model.specs.declared.Place.{Place}
use Rattle.model.specs.declared.Error.{Error}
use Rattle.model.specs.declared.FrameLength.{FrameLength}
use Rattle.model.specs.declared.FrameLength.TheVariants.{Finished}
use Rattle.model.specs.declared.Joining.{Joining}
use Rattle.model.specs.declared.Joining.TheVariants.{Through, Ignore, Full, TooLong, Join, Complete}
use Rattle.model.specs.Bytes.{u32, i32}
use Rattle.model.specs.FrameDescriptor.{align, is_finished, length_at, unsound_length, unsound_frame_at, flags_at, begins, ends}
use Rattle.model.specs.LogBufferDescriptor.{sound, good_partition, good_offset, place_of as place_read, first_rows, frame_row}
use Rattle.model.specs.FragmentAssembler.{Sessions, Assembly, entered, place_of, joining, sessions_by, buffer_by, assembled_by, joined_at, good_frame, good_assembly, assemble_verdict, assemble_by, assemble_of}
use types.Run.{OneOf}
use denote.Enum.Declared.{tag_of}
use Rattle.model.specs.contracts.FrameLength.{the_type}
use Rattle.logbuffer.proofs.Lengths.{unfinished}
use Rattle.model.proofs.Choice.{cond-true, cond-false, cond-case}
use Rattle.model.proofs.Both.{and-true, both_true, or-false, test}
use Rattle.model.proofs.FrameLaws.{finished-word}
use Rattle.model.proofs.PlaceLaws.{and-and, placed}
use Rattle.model.proofs.Rows.{rows-refuse, rows_pass, rows_then, rows-passed}
use Rattle.logbuffer.specs.Assembler.{held_at, leaving, Framed, is_framed, Enters, join_of}
use Rattle.logbuffer.specs.declared.fragment_assembler.Joined.{Joined}
use Rattle.model.specs.declared.Error.TheVariants.{IllegalArgument}
use Rattle.logbuffer.proofs.Sessions.{Begun, More}

both : {a b x : Bool} → a ≡ true → b ≡ x → (a && b) ≡ x
both e f = ap₂ ◌&&◌ e f

no-pass : {e : Error} → ◌≡◌ {A = Result ⊤ Error} (Ok tt) (Err e) → ⊥
no-pass h = let x : ◌≡◌ {A = ℕ} 0 1 = cc in omega arith

-- ---- a whole frame, as the core asks for it

module _ (log : List ℕ) (at : ℕ) (x : FrameLength) (e : x ≡ length_at (drop at log)) where
  pub framed-unfinished : OneOf (0 ∷ 1 ∷ []) (tag_of the_type x) → false ≡ is_framed log at
  framed-unfinished o = ap (λ (b : Bool). b && (leb 32 (u32 (drop at log)) && leb (at + u32 (drop at log)) (length log))) (sym (unfinished x o) ∙ ap is_finished e)

  module _ (n : ℕ) (q : x ≡ Finished n) where
    size : n ≡ u32 (drop at log)
    size = (finished-word (u32 (drop at log)) n (sym e ∙ q)).0

    finished : is_finished (length_at (drop at log)) ≡ true
    finished = ap is_finished (sym e ∙ q)

    pub framed-short : n < 32 → false ≡ is_framed log at
    framed-short h = sym (both finished (ap (λ (b : Bool). b && leb (at + u32 (drop at log)) (length log)) (lt-leb 32 (u32 (drop at log)) (omega (arith, size)))))

    pub framed-by : 32 ≤ n → leb (at + n) (length log) ≡ is_framed log at
    framed-by h =
        ap (λ (m : ℕ). leb (at + m) (length log)) size
        ∙ sym (both finished (ap (λ (b : Bool). b && leb (at + u32 (drop at log)) (length log)) (le-leb 32 (u32 (drop at log)) (omega (arith, size)))))

pub framed-true : (log : List ℕ) (at : ℕ) → is_framed log at ≡ true → Framed log at
framed-true log at h =
    let a = and-true (is_finished (length_at (drop at log))) _ h in
    let b = and-true (leb 32 (u32 (drop at log))) _ a.1 in
    record { finished = a.0; header = leb-true _ _ b.0; whole = leb-true _ _ b.1 }

pub framed-so : (log : List ℕ) (at : ℕ) → Framed log at → is_framed log at ≡ true
framed-so log at f = both_true f.finished (both_true (le-leb _ _ f.header) (le-leb _ _ f.whole))

-- ---- row 1

module _ (v : Reading) (log : List ℕ) (lent k at : ℕ) where
  -- what row 1 says of the place
  pub assembly-at : good_assembly v log lent k at ≡ true
      → ((good_partition k && good_offset at v) ≡ true) × (is_finished (length_at (drop (k * v.term + at) log)) ≡ true)
  assembly-at g =
      let p = and-and (good_partition k) (good_offset at v) (good_frame log (k * v.term + at)) (and-true (leb lent 2147483647) _ g).1 in
      (p.0, (and-true (leb (k * v.term + at + 4) (length log)) _ p.1).1)

  -- ---- rows 1, 2, 22 and 23

  abbrev rows : Result ⊤ Error
  rows = first_rows (good_assembly v log lent k at) (sound v (length log)) (Ok tt)

  abbrev row_of_frame : Result ⊤ Error
  row_of_frame = frame_row (unsound_length (u32 (drop (k * v.term + at) log)) (v.term - at)) (unsound_frame_at log (k * v.term) at)

  pub verdict-refused : {e : Error} → rows ≡ Err e → Err e ≡ assemble_verdict v log lent k at
  unfolding assemble_verdict
  verdict-refused h = rows-refuse (good_assembly v log lent k at) (sound v (length log)) row_of_frame h

  pub verdict-goes : rows ≡ Ok tt → row_of_frame ≡ assemble_verdict v log lent k at
  unfolding assemble_verdict
  verdict-goes h = rows_then (good_assembly v log lent k at) (sound v (length log)) row_of_frame h

  -- a frame that passes them lies in its term, and its length word is that of a whole frame
  pub passed-frame : good_assembly v log lent k at ≡ true → sound v (length log) ≡ true → unsound_length (u32 (drop (k * v.term + at) log)) (v.term - at) ≡ false
      → Framed log (k * v.term + at)
  passed-frame g s u =
      let p = placed v (length log) k at (assembly-at g).0 s in
      let w = u32 (drop (k * v.term + at) log) in
      let q = or-false (ltb w 32) (ltb (v.term - at) (align w)) u in
      let l : 32 ≤ w = ltb-false w 32 q.0 in
      let m : align w ≤ v.term - at = ltb-false (v.term - at) (align w) q.1 in
      record { finished = (assembly-at g).1; header = l; whole = omega (arith, p.inside, p.below) }

  pub verdict-passed : assemble_verdict v log lent k at ≡ Ok tt → Framed log (k * v.term + at)
  unfolding assemble_verdict
  verdict-passed e =
      let q = rows-passed (good_assembly v log lent k at) (sound v (length log)) row_of_frame e in
      let g = rows_pass (good_assembly v log lent k at) (sound v (length log)) q.0 in
      test (unsound_length (u32 (drop (k * v.term + at) log)) (v.term - at))
      (λ u. absurd (no-pass (sym q.1 ∙ cond-true _ _ _ u)))
      (λ u. passed-frame g.0 g.1 u)

-- ---- a frame joined

-- equal assemblies, part by part
abbrev pub three : (d e : Assembly) → d ≡ e → ((d.answer ≡ e.answer) × (d.next ≡ e.next)) × (d.buffer ≡ e.buffer)
three d e h = ((ap (λ (y : Assembly). y.answer) h, ap (λ (y : Assembly). y.next) h), ap (λ (y : Assembly). y.buffer) h)

-- where it is put: a place of the 16, and the body lies in its part
abbrev pub Fit : ℕ → ℕ → Joining → Type 0
Fit n part Through = Unit {0}
Fit n part Ignore = Unit {0}
Fit n part Full = Unit {0}
Fit n part (TooLong k) = k < 16
Fit n part (Join k from) = (k < 16) × (from + n ≤ part)
Fit n part (Complete k from) = (k < 16) × (from + n ≤ part)

begun-fits : (k n part : ℕ) → Fit n part (Begun k n part)
begun-fits k n part =
    cond-case (Fit n part) (leb 16 k) Full _ (λ _. tt)
    (λ h. cond-case (Fit n part) (ltb part n) (TooLong k) (Join k 0) (λ _. leb-false 16 k h) (λ l. (leb-false 16 k h, omega (arith, ltb-false part n l))))

more-fits : (k m from n part : ℕ) (e : Bool) → m ≤ 16 → Fit n part (More k m from n part e)
more-fits k m from n part e h =
    cond-case (Fit n part) (leb m k || eqb from 0) Ignore _ (λ _. tt)
    (λ o. let l : k < 16 = omega (arith, leb-false m k (or-false (leb m k) (eqb from 0) o).0) in
    cond-case (Fit n part) (ltb part (from + n)) (TooLong k) _ (λ _. l)
    (λ r. cond-case (Fit n part) e (Complete k from) (Join k from) (λ _. (l, ltb-false part (from + n) r)) (λ _. (l, ltb-false part (from + n) r))))

pub join-fits : (s : Sessions) (z : ℤ) (flags n part : ℕ) → Fit n part (joining s z flags n part)
unfolding joining
join-fits s z flags n part =
    cond-case (Fit n part) (begins flags && ends flags) Through _ (λ _. tt)
    (λ _. cond-case (Fit n part) (begins flags) (Begun (place_of s z) n part) (More (place_of s z) (entered s) (get_or s.held (place_of s z) 0) n part (ends flags))
    (λ _. begun-fits (place_of s z) n part) (λ _. more-fits (place_of s z) (entered s) (get_or s.held (place_of s z) 0) n part (ends flags) (omega arith)))

-- by the numbers that are read from its header
module _ (s : Sessions) (buffer log : List ℕ) (place at w flags : ℕ) (z : ℤ) (x : Joining) where
  abbrev pub Done : Assembly
  Done =
      record {
        answer = assembled_by (at + 32) (w - 32) (length buffer / 16) x;
        next = sessions_by s z (w - 32) x;
        buffer = buffer_by buffer (take (w - 32) (drop (place + 32) log)) x;
      }

  pub done : w ≡ u32 (drop place log) → flags ≡ get_or log (place + 5) 0 → z ≡ i32 (drop (place + 12) log) → x ≡ joining s z flags (w - 32) (length buffer / 16)
      → Done ≡ joined_at s buffer (drop place log) at
  done ew ef ez ex =
      ap (λ (y : Joining). As w z (drop (place + 32) log) y) (ex ∙ ap₂ (λ (f : ℕ) (y : ℤ). joining s y f (w - 32) (length buffer / 16)) ff zz)
      ∙ ap₂ (λ (n : ℕ) (y : ℤ). As n y (drop (place + 32) log) (joining s (i32 (drop 12 (drop place log))) (flags_at (drop place log)) (n - 32) (length buffer / 16))) ew zz
      ∙ ap (λ (l : List ℕ). As (u32 (drop place log)) (i32 (drop 12 (drop place log))) l (joining s (i32 (drop 12 (drop place log))) (flags_at (drop place log)) (u32 (drop place log) - 32) (length buffer / 16))) (sym (drop-drop 32 place log))
    where
      As : ℕ → ℤ → List ℕ → Joining → Assembly
      As n y l j = record { answer = assembled_by (at + 32) (n - 32) (length buffer / 16) j; next = sessions_by s y (n - 32) j; buffer = buffer_by buffer (take (n - 32) l) j }

      zz : z ≡ i32 (drop 12 (drop place log))
      zz = ez ∙ ap i32 (sym (drop-drop 12 place log))

      ff : flags ≡ flags_at (drop place log)
      ff = ef ∙ sym (get_or-drop place log 5 0)

-- ---- the core over lent arrays

module _ (s : Sessions) (buffer log : List ℕ) (i at : ℕ) where
  abbrev pub Joins : Bool
  Joins = is_framed log i && (leb at 4294967295 && eqb (length s.ids) 16)

  abbrev pub NoJoin : Assembly
  NoJoin = record { answer = Err IllegalArgument; next = s; buffer = buffer }

  pub join-no : Joins ≡ false → NoJoin ≡ join_of s buffer log i at
  unfolding join_of
  join-no h = sym (cond-false Joins (joined_at s buffer (drop i log) at) NoJoin h)

  pub join-yes : Framed log i → at ≤ 4294967295 → length s.ids ≡ 16 → joined_at s buffer (drop i log) at ≡ join_of s buffer log i at
  unfolding join_of
  join-yes f h e = sym (cond-true Joins (joined_at s buffer (drop i log) at) NoJoin (both_true (framed-so log i f) (both_true (le-leb _ _ h) (eq-eqb _ _ e))))

  -- where the core refuses, its caller enters nothing
  pub not-joined : (j : Joined) (z : ℤ) → Joins ≡ false → j ≡ leaving 16 z 0 (Err IllegalArgument) → Enters s j (join_of s buffer log i at)
  not-joined j z h e =
      let q = join-no h in
      record {
        answers = ap (λ (y : Joined). y.answer) e ∙ ap (λ (y : Assembly). y.answer) q;
        leaves = ap (λ (y : Joined). held_at s y.place y.session y.held) e ∙ ap (λ (y : Assembly). y.next) q;
      }

  -- the same by another name for the assembly
  pub enters-as : (j : Joined) (a b : Assembly) → Enters s j a → a ≡ b → Enters s j b
  enters-as j a b h e = record { answers = h.answers ∙ ap (λ (y : Assembly). y.answer) e; leaves = h.leaves ∙ ap (λ (y : Assembly). y.next) e }

-- ---- the whole call, at the place that its code reads

pub assembles : (r : LogRecord) (log : List ℕ) (s : Sessions) (buffer : List ℕ) (partition offset : ℤ) (p : Place) (x : Result ⊤ Error)
    → p ≡ place_read r partition offset → x ≡ assemble_verdict p.read log (length buffer) p.partition p.offset
    → assemble_by s buffer (drop (p.partition * p.read.term + p.offset) log) p.offset x ≡ assemble_of r log s buffer partition offset
unfolding assemble_of
assembles r log s buffer partition offset p x ep ex =
    ap (assemble_by s buffer (drop (p.partition * p.read.term + p.offset) log) p.offset) ex
    ∙ ap (λ (y : Place). assemble_by s buffer (drop (y.partition * y.read.term + y.offset) log) y.offset (assemble_verdict y.read log (length buffer) y.partition y.offset)) ep
