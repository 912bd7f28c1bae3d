-- `read` by way of the walk that the leaf library offers: what each of its rows answers, at the place that its code reads.
use Rattle.std.specs.Prelude.{Result, Ok, Err, ⊤}
use mathlib.Core.Path.{◌≡◌, refl, sym, ap, ap₂, ◌∙◌}
use mathlib.Core.Bool.{Bool, true, false, cond, ◌&&◌, ◌||◌}
use mathlib.Core.List.{List, [], ◌∷◌}
use Prim.Native.Nat.{ℕ, zero, suc, ◌+◌, ◌-◌, ◌*◌, ◌≤◌}
use native.Mathlib.Omega.{arith}
use borrow.Author.Tests.{leb-true}
use lib.Dec.{eqb, leb, ltb}
use lib.ListN.{length, drop}
use lib.IntN.{ℤ}
use Rattle.model.specs.declared.LogRecord.{LogRecord}
use Rattle.model.specs.declared.Place.{Place}
use Rattle.model.specs.declared.Error.{Error}
use Rattle.model.specs.declared.Frame.{Frame}
use Rattle.model.specs.declared.Frame.TheVariants.{Absent, Unsound, Padding, Data}
use Rattle.model.specs.declared.Walk.{Walk}
use Rattle.model.specs.declared.FramesRead.TheVariants.{Walked as AllWalked}
use Rattle.model.specs.FrameDescriptor.{align, frame_at, unsound_frame_at}
use Rattle.model.specs.LogBufferDescriptor.{sound, good_partition, place_of, first_rows, frame_row}
use Rattle.model.specs.TermReader.{Walked, still, over, handed, good_walk, good_handler, good_start, next_action, rest_actions, walk, walk_of, first_unsound, natural, good_entries, frames_by, frames_of, frames_entries, read_from, read_walk, read_verdict, read_by, read_of, read_entries, entries_by}
use Rattle.model.proofs.FrameLaws.{Lies, lies}
use Rattle.model.proofs.Rows.{rows-refuse, rows_pass, rows_then}
use Rattle.model.proofs.PlaceLaws.{Started, and-and, started}
use Rattle.model.proofs.ReaderLaws.{good-walk-by, frames-by}
use Rattle.model.proofs.Both.{and-true}

-- ---- how far a walk goes and settles: not past the term

abbrev Within : Walked → ℕ → Type 0
Within w room = (w.moved ≤ room) × (w.settled ≤ room)

settled-by : (b : Bool) (size later room : ℕ) → size + later ≤ room → cond b (size + later) 0 ≤ room
settled-by true size later room h = h
settled-by false size later room h = omega arith

handed-within : (a b whole : Bool) (at n room : ℕ) (w : Walked) → align n ≤ room → Within w (room - align n)
    → Within (cond a (record { entries = (at + 32, n - 32) ∷ []; fragments = 0; moved = 0; settled = 0 }) (cond b (handed at n whole still) (handed at n whole w))) room
handed-within true b whole at n room w h k = (omega arith, omega arith)
handed-within false true whole at n room w h k = (omega arith, settled-by (whole || ltb 0 0) (align n) 0 room (omega arith))
handed-within false false whole at n room w h k =
    let m : w.moved ≤ room - align n = k.0 in
    let l : w.settled ≤ room - align n = k.1 in
    (omega arith, settled-by (whole || ltb 0 w.settled) (align n) w.settled room (omega arith))

either-within : (b : Bool) (w : Walked) (room : ℕ) → Within w room → Within (cond b still w) room
either-within true w room h = (omega arith, omega arith)
either-within false w room h = h

module _ (log : List ℕ) (base term at : ℕ) where
  over-within : (x : Frame) (whole : Bool) (limit : ℕ) (acts : List ℕ) (go : ℕ → ℕ → List ℕ → Walked) → frame_at (drop (base + at) log) (term - at) ≡ x
      → ((a l : ℕ) (more : List ℕ) → Within (go a l more) (term - a)) → Within (over x whole at limit acts go) (term - at)
  over-within Absent whole limit acts go e h = (omega arith, omega arith)
  over-within (Unsound n) whole limit acts go e h = (omega arith, omega arith)
  over-within (Padding n) whole limit acts go e h =
      let k : Lies n (term - at) = lies (drop (base + at) log) (term - at) (Padding n) e refl in
      let m = h (at + align n) (suc limit) acts in
      (omega (arith, k.inside, m.0), omega (arith, k.inside, m.1))
  over-within (Data n) whole limit acts go e h =
      let k : Lies n (term - at) = lies (drop (base + at) log) (term - at) (Data n) e refl in
      let w = h (at + align n) limit (rest_actions acts) in
      let m : (go (at + align n) limit (rest_actions acts)).moved ≤ term - at - align n = omega (arith, w.0) in
      let l : (go (at + align n) limit (rest_actions acts)).settled ≤ term - at - align n = omega (arith, w.1) in
      handed-within (eqb (next_action acts) 1) (eqb (next_action acts) 2) whole at n (term - at) (go (at + align n) limit (rest_actions acts)) k.inside (m, l)

walk-within : (fuel : ℕ) (log : List ℕ) (base term end at limit : ℕ) (acts : List ℕ) → Within (walk fuel log base term end at limit acts) (term - at)
unfolding walk
walk-within zero log base term end at limit acts = (omega arith, omega arith)
walk-within (suc fuel) log base term end at zero acts = (omega arith, omega arith)
walk-within (suc fuel) log base term end at (suc limit) acts =
    either-within (leb end at) _ (term - at)
    (over-within log base term at (frame_at (drop (base + at) log) (term - at)) _ limit acts (λ a l more. walk fuel log base term end a l more) refl
    (λ a l more. walk-within fuel log base term end a l more))

pub walk-moved : (fuel : ℕ) (log : List ℕ) (base term end at limit : ℕ) (acts : List ℕ) → (walk fuel log base term end at limit acts).moved ≤ term - at
walk-moved fuel log base term end at limit acts = (walk-within fuel log base term end at limit acts).0

pub walk-settled : (fuel : ℕ) (log : List ℕ) (base term end at limit : ℕ) (acts : List ℕ) → (walk fuel log base term end at limit acts).settled ≤ term - at
walk-settled fuel log base term end at limit acts = (walk-within fuel log base term end at limit acts).1

-- ---- the rows of `read`

-- row 1
abbrev pub good_read : Place → ℕ → ℕ → Bool
good_read p limit slots = good_partition p.partition && (good_start p.offset p.read && good_entries slots limit)

pub read-placed : (p : Place) (n limit slots : ℕ) → good_read p limit slots ≡ true → sound p.read n ≡ true → Started p.read n p.partition p.offset
read-placed p n limit slots g s = started p.read n p.partition p.offset (and-and (leb p.partition 2) (good_start p.offset p.read) (good_entries slots limit) g).0 s

-- the walk's own row 1 is met
pub read_walk_lem : (p : Place) (n limit slots : ℕ) → good_read p limit slots ≡ true → sound p.read n ≡ true
    → good_walk n (p.partition * p.read.term) p.read.term p.read.term p.offset limit slots ≡ true
read_walk_lem p n limit slots g s =
    let q = read-placed p n limit slots g s in
    let e = (and-and (leb p.partition 2) (good_start p.offset p.read) (good_entries slots limit) g).1 in
    let f = and-true (leb slots 2147483647) _ e in
    sym (good-walk-by n (p.partition * p.read.term) p.read.term p.read.term p.offset limit slots q.inside q.term-high q.term-32 (omega arith) q.at-32 (leb-true _ _ f.0)) ∙ f.1

module _ (r : LogRecord) (log : List ℕ) (partition offset limit : ℤ) (slots : List ℤ) (p : Place) (most : ℕ) (ep : p ≡ place_of r partition offset) (em : most ≡ natural limit) where
  abbrev walk_at : Place → ℕ → Walked
  walk_at x l = read_walk x.read log x.partition x.offset l

  abbrev judged_at : Place → ℕ → Result ⊤ Error
  judged_at x l = read_verdict x.read log x.partition x.offset l (length slots)

  -- both answers by one verdict, at the place and with the limit that the code reads
  by-verdict : {v : Result ⊤ Error} → v ≡ judged_at p most
      → (read_by p.offset (walk_at p most) v ≡ read_of r log partition offset limit slots) × (entries_by slots (walk_at p most) v ≡ read_entries r log partition offset limit slots)
  unfolding read_of read_entries
  by-verdict h = (
    ap (read_by p.offset (walk_at p most)) h ∙ ap₂ (λ (x : Place) (l : ℕ). read_by x.offset (walk_at x l) (judged_at x l)) ep em,
    ap (entries_by slots (walk_at p most)) h ∙ ap₂ (λ (x : Place) (l : ℕ). entries_by slots (walk_at x l) (judged_at x l)) ep em,
  )

  abbrev rows : Result ⊤ Error
  rows = first_rows (good_read p most (length slots)) (sound p.read (length log)) (Ok tt)

  abbrev first : Bool
  first = first_unsound log (p.partition * p.read.term) p.read.term p.read.term p.offset most

  abbrev refusal : Error
  refusal = unsound_frame_at log (p.partition * p.read.term) p.offset

  pub read-refused : {e : Error} → rows ≡ Err e → (Err e ≡ read_of r log partition offset limit slots) × (slots ≡ read_entries r log partition offset limit slots)
  unfolding read_verdict
  read-refused h = by-verdict (rows-refuse (good_read p most (length slots)) (sound p.read (length log)) (frame_row first refusal) h)

  by_first : (b : Bool) (w : Walked) → read_from p.offset (frames_by w (frame_row b refusal)) ≡ read_by p.offset w (frame_row b refusal)
  by_first true w = refl
  by_first false w = refl

  -- after rows 1 and 2: the walk
  pub read_goes : rows ≡ Ok tt
      → (read_from p.offset (frames_of log (p.partition * p.read.term) p.read.term p.read.term p.offset most [] slots) ≡ read_of r log partition offset limit slots)
      × (frames_entries log (p.partition * p.read.term) p.read.term p.read.term p.offset most [] slots ≡ read_entries r log partition offset limit slots)
  unfolding read_verdict
  read_goes h =
      let g = rows_pass (good_read p most (length slots)) (sound p.read (length log)) h in
      let f = frames-by log (p.partition * p.read.term) p.read.term p.read.term p.offset most [] slots (read_walk_lem p (length log) most (length slots) g.0 g.1) refl in
      let b = by-verdict (rows_then (good_read p most (length slots)) (sound p.read (length log)) (frame_row first refusal) h) in
      (ap (read_from p.offset) (sym f.0) ∙ by_first first (walk_at p most) ∙ b.0, sym f.1 ∙ b.1)

-- where the walk goes at all, it moves inside the term
module _ (log : List ℕ) (base term end at limit : ℕ) (acts : List ℕ) (slots : List ℤ) (h : good_walk (length log) base term end at limit (length slots) ≡ true) (g : good_handler acts limit ≡ true) where
  pub frames-moved : (w : Walk) → frames_of log base term end at limit acts slots ≡ AllWalked w → w.moved ≤ term - at
  frames-moved w q = go (first_unsound log base term end at limit) ((frames-by log base term end at limit acts slots h g).0 ∙ q)
    where
      go : (b : Bool) → frames_by (walk term log base term end at limit acts) (cond b (Err (unsound_frame_at log base at)) (Ok tt)) ≡ AllWalked w → w.moved ≤ term - at
      go true t = absurd (let z : ◌≡◌ {A = ℕ} 0 1 = cc in omega arith)
      go false t = let e : walk_of (walk term log base term end at limit acts) ≡ w = cc in omega (arith, ap (λ (x : Walk). x.moved) e, walk-moved term log base term end at limit acts)
