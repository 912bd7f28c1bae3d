-- The scans of a term: `scan`, `scan_for_gap`, `scan_for_availability` ("Reading" in document 01, second paragraph). Each meets an
-- unsound frame as readers do: 22 or 23 at the first frame, else it stops before it. In order: 1, 2, 22 or 23. Read Image next.
use Rattle.std.specs.Prelude.{ℕ, zero, suc, ◌+◌, ◌-◌, ◌*◌, ◌%◌, min, Bool, true, false, cond, ◌&&◌, ◌||◌, List, eqb, leb, ltb, length, drop, ℤ, pos, Result, Ok, Err, ⊤}
use Rattle.model.specs.declared.LogRecord.{LogRecord}
use Rattle.model.specs.declared.Error.{Error}
use Rattle.model.specs.declared.Error.TheVariants.{IllegalArgument}
use Rattle.model.specs.declared.Frame.{Frame}
use Rattle.model.specs.declared.Frame.TheVariants.{Absent, Unsound, Padding, Data}
use Rattle.model.specs.declared.GapScanned.{GapScanned}
use Rattle.model.specs.declared.GapScanned.TheVariants.{Gap, NoGap}
use Rattle.model.specs.Bytes.{word, u32}
use Rattle.model.specs.FrameDescriptor.{align, is_writing, length_at, frame_at, is_unsound, unsound_frame_at}
use Rattle.model.specs.LogBufferDescriptor.{reading, sound, good_partition, good_offset, within_term, first_rows, frame_row}
use Rattle.model.specs.TermReader.{natural}

-- the ladder of the three, with what row 1 asks, whether the first frame is unsound, and its refusal
unfoldable pub scan_verdict : Bool → Bool → Bool → Error → Result ⊤ Error
scan_verdict good sound first e = first_rows good sound (frame_row first e)

-- ---- scan: whole data frames up to the limit; a padding frame only at the start, even one that ends past the limit

abbrev pub scan_over : Frame → Bool → ℕ → ℕ → (ℕ → ℕ) → ℕ
scan_over Absent first at limit go = at
scan_over (Unsound n) first at limit go = at
scan_over (Padding n) first at limit go = cond first (at + align n) at
scan_over (Data n) first at limit go = cond (leb (at + align n) limit) (go (at + align n)) at

unfoldable pub scan_from : ℕ → List ℕ → ℕ → ℕ → ℕ → Bool → ℕ → ℕ
scan_from zero log base term limit first at = at
scan_from (suc fuel) log base term limit first at =
    cond (leb limit at) at
    (scan_over (frame_at (drop (base + at) log) (term - at)) first at limit (λ a. scan_from fuel log base term limit false a))

-- record, log, partition, offset, limit: any number up to the term length
unfoldable pub scan_judge : LogRecord → List ℕ → ℕ → ℕ → ℤ → Result ⊤ Error
scan_judge r log k at limit =
    scan_verdict (good_partition k && (good_offset at (reading r) && within_term (natural limit) (reading r))) (sound (reading r) (length log))
    (ltb at (natural limit) && is_unsound (frame_at (drop (k * (reading r).term + at) log) ((reading r).term - at)))
    (unsound_frame_at log (k * (reading r).term) at)

abbrev pub scan_by : ℕ → Result ⊤ Error → Result ℕ Error
scan_by at (Ok _) = Ok at
scan_by at (Err e) = Err e

-- the refusal of a scan that was refused; of any other there is none, and 1 stands for it
abbrev pub scan_refusal : Result ℕ Error → Error
scan_refusal (Ok n) = IllegalArgument
scan_refusal (Err e) = e

unfoldable pub scan_of : LogRecord → List ℕ → ℤ → ℤ → ℤ → Result ℕ Error
scan_of r log partition offset limit =
    scan_by (scan_from (reading r).term log (word partition * (reading r).term) (reading r).term (natural limit) true (word offset))
    (scan_judge r log (word partition) (word offset) limit)

-- ---- scan_for_gap

-- The walk over frames to the first free place, or until it is at or past the high mark. An unsound frame stops it, and then it
-- reports no gap.
pub record Rebuilt : Type 0 where
  pub at : ℕ
  pub stopped : Bool

abbrev pub gap_over : Frame → ℕ → ℕ → (ℕ → Rebuilt) → Rebuilt
gap_over Absent at high go = record { at = at; stopped = false }
gap_over (Unsound n) at high go = record { at = at; stopped = true }
gap_over (Padding n) at high go = cond (leb high (at + align n)) (record { at = at + align n; stopped = false }) (go (at + align n))
gap_over (Data n) at high go = cond (leb high (at + align n)) (record { at = at + align n; stopped = false }) (go (at + align n))

unfoldable pub rebuild : ℕ → List ℕ → ℕ → ℕ → ℕ → ℕ → Rebuilt
rebuild zero log base term high at = record { at = at; stopped = false }
rebuild (suc fuel) log base term high at =
    gap_over (frame_at (drop (base + at) log) (term - at)) at high (λ a. rebuild fuel log base term high a)

-- the gap's length: 32 at a time to the first nonzero word, or to the high mark
unfoldable pub gap_length : ℕ → List ℕ → ℕ → ℕ → ℕ → ℕ
gap_length zero log base high at = 32
gap_length (suc fuel) log base high at =
    cond (leb high (at + 32)) 32
    (cond (eqb (u32 (drop (base + (at + 32)) log)) 0) (32 + gap_length fuel log base high (at + 32)) 32)

-- record, log, partition, term id, offset, high mark: a multiple of 32 up to the term length
abbrev pub good_mark : ℤ → LogRecord → Bool
good_mark high r = eqb (word high % 32) 0 && within_term (word high) (reading r)

unfoldable pub gap_judge : LogRecord → List ℕ → ℕ → ℕ → ℤ → Result ⊤ Error
gap_judge r log k at high =
    scan_verdict (good_partition k && (good_offset at (reading r) && good_mark high r)) (sound (reading r) (length log))
    (is_unsound (frame_at (drop (k * (reading r).term + at) log) ((reading r).term - at)))
    (unsound_frame_at log (k * (reading r).term) at)

-- the gap's term id as given, its offset, its length, and whether it starts on a frame being written
abbrev pub gap_at : LogRecord → List ℕ → ℕ → ℤ → ℕ → Rebuilt → Result GapScanned Error
gap_at r log k id high w =
    cond (w.stopped || leb high w.at) (Ok (NoGap w.at))
    (Ok (Gap id w.at (gap_length (reading r).term log (k * (reading r).term) high w.at) (is_writing (length_at (drop (k * (reading r).term + w.at) log)))))

abbrev pub gap_by : Result GapScanned Error → Result ⊤ Error → Result GapScanned Error
gap_by g (Ok _) = g
gap_by g (Err e) = Err e

unfoldable pub gap_of : LogRecord → List ℕ → ℤ → ℤ → ℤ → ℤ → Result GapScanned Error
gap_of r log partition id offset high =
    gap_by
    (gap_at r log (word partition) id (word high)
    (rebuild (reading r).term log (word partition * (reading r).term) (reading r).term (word high) (word offset)))
    (gap_judge r log (word partition) (word offset) high)

-- ---- scan_for_availability

-- Frames passed so far, and the padding behind the last padding frame's header. The walk goes on inside a padding frame that is shorter
-- than the maximum; it stops at a free place or an unsound frame with what it has, and before a frame that passes the maximum.
pub record Available : Type 0 where
  pub available : ℕ
  pub padding : ℕ

abbrev pub counted : ℕ → ℕ → ℕ → ℕ → (ℕ → ℕ → Available) → Available
counted available size padding most go =
    cond (ltb most (available + size)) (record { available = available; padding = 0 })
    (cond (leb most (available + size + padding)) (record { available = available + size; padding = padding })
    (go (available + size) padding))

abbrev pub available_over : Frame → ℕ → ℕ → ℕ → (ℕ → ℕ → Available) → Available
available_over Absent available padding most go = record { available = available; padding = padding }
available_over (Unsound n) available padding most go = record { available = available; padding = padding }
available_over (Padding n) available padding most go = counted available 32 (align n - 32) most go
available_over (Data n) available padding most go = counted available (align n) padding most go

unfoldable pub available_from : ℕ → List ℕ → ℕ → ℕ → ℕ → ℕ → ℕ → ℕ → Available
available_from zero log base term at most available padding = record { available = available; padding = padding }
available_from (suc fuel) log base term at most available padding =
    available_over (frame_at (drop (base + (at + available)) log) (term - (at + available))) available padding most
    (λ a p. available_from fuel log base term at most a p)

-- record, log, partition, offset, maximum: any number, cut to what is left of the term
unfoldable pub availability_judge : LogRecord → List ℕ → ℕ → ℕ → Result ⊤ Error
availability_judge r log k at =
    scan_verdict (good_partition k && good_offset at (reading r)) (sound (reading r) (length log))
    (is_unsound (frame_at (drop (k * (reading r).term + at) log) ((reading r).term - at)))
    (unsound_frame_at log (k * (reading r).term) at)

abbrev pub availability_by : Available → Result ⊤ Error → Result ℤ Error
availability_by a (Ok _) = Ok (pos (a.padding * 4294967296 + a.available))
availability_by a (Err e) = Err e

unfoldable pub availability_of : LogRecord → List ℕ → ℤ → ℤ → ℤ → Result ℤ Error
availability_of r log partition offset maximum =
    availability_by
    (available_from (reading r).term log (word partition * (reading r).term) (reading r).term (word offset)
    (min (natural maximum) ((reading r).term - word offset)) 0 0)
    (availability_judge r log (word partition) (word offset))
