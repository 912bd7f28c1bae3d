-- The walk of the stream between two positions: one step of it, the frames that it passes, where it ends, and why there.
-- Read Span next.
use Rattle.std.specs.Prelude.{ℕ, zero, suc, ◌+◌, ◌-◌, ◌*◌, ◌/◌, ◌%◌, ◌^◌, min, Bool, cond, ◌&&◌, ◌||◌, List, [], ◌∷◌, drop, ◌==◌, nat_le, nat_lt}
use Rattle.model.specs.declared.LogRecord.{LogRecord}
use Rattle.model.specs.declared.FrameLength.{FrameLength}
use Rattle.model.specs.declared.FrameLength.TheVariants.{Free as LengthFree, Writing as LengthWriting, Finished}
use Rattle.model.specs.declared.Frame.{Frame}
use Rattle.model.specs.declared.Frame.TheVariants.{Absent, Unsound, Padding, Data}
use Rattle.model.specs.Bytes.{word}
use Rattle.model.specs.DataFrameHeader.{header_at}
use Rattle.model.specs.FrameDescriptor.{align, length_at, frame_at, is_unsound}
use Rattle.model.specs.LogBufferDescriptor.{id_plus, partition_of, reading}
use Rattle.tally.specs.declared.step.Met.{Met}
use Rattle.tally.specs.declared.step.Stop.{Stop}
use Rattle.tally.specs.declared.step.Stop.TheVariants.{Reached, Writing, Free, OtherTerm, PastSecond, UnsoundFrame}

-- ---- a log as a stream: the length of its terms, the 32 bits of the first one's id, and its bytes

pub record Stream : Type 0 where
  pub term : ℕ
  pub initial : ℕ
  pub log : List ℕ

unfoldable pub stream_of : LogRecord → List ℕ → Stream
stream_of r log = record { term = (reading r).term; initial = word r.initial_term_id; log = log }

-- the same by the bits to shift, which are cut to 30, those of the longest term
unfoldable pub stream_by : ℕ → ℕ → List ℕ → Stream
stream_by bits initial log = record { term = 2 ^ min bits 30; initial = initial; log = log }

-- ---- one step

-- where in the log a position lies, and the bytes from there on
abbrev pub place_at : ℕ → ℕ → ℕ
place_at term p = partition_of p term * term + p % term

abbrev pub bytes_at : Stream → ℕ → List ℕ
bytes_at s p = drop (place_at s.term p) s.log

-- the frame there, as every reader sees it
unfoldable pub frame_in : ℕ → List ℕ → ℕ → Frame
frame_in term log p = frame_at (drop (place_at term p) log) (term - p % term)

abbrev pub seen : Stream → ℕ → Frame
seen s p = frame_in s.term s.log p

-- it has the id of its position's term, where ids wrap
unfoldable pub own_id : Stream → ℕ → Bool
own_id s p = (header_at (bytes_at s p)).id == id_plus s.initial (p / s.term)

-- what a frame takes of the stream; nothing where there is none to pass
abbrev pub size : Frame → ℕ
size Absent = 0
size (Unsound n) = 0
size (Padding n) = align n
size (Data n) = align n

-- What a walk up to `to` meets at p. At `to` it looks at nothing. Before that an unsound frame is met as one; any other frame is met if it has
-- its own id and does not pass `to`.
unfoldable pub met : Stream → ℕ → ℕ → Frame
met s to p = cond (nat_lt p to && (is_unsound (seen s p) || (own_id s p && nat_le (p + size (seen s p)) to))) (seen s p) Absent

-- with its size, as the code answers a step
abbrev pub met_of : Stream → ℕ → ℕ → Met
met_of s to p = record { frame = met s to p; size = size (met s to p) }

-- ---- the walk

-- a frame that was passed, with its position
pub record Passed : Type 0 where
  pub at : ℕ
  pub frame : Frame

-- The frames passed from p on. The fuel is at least the bytes left.
unfoldable pub walked : ℕ → Stream → ℕ → ℕ → List Passed
walked zero s to p = []
walked (suc fuel) s to p =
    cond (size (met s to p) == 0) [] (record { at = p; frame = met s to p } ∷ walked fuel s to (p + size (met s to p)))

abbrev pub between : Stream → ℕ → ℕ → List Passed
between s from to = walked (to - from) s to from

-- where a walk from p ended: behind its last frame
unfoldable pub end_of : ℕ → List Passed → ℕ
end_of p [] = p
end_of p (f ∷ fs) = end_of (f.at + size f.frame) fs

-- ---- why it ended where it did

-- The sign of the length word comes first, then soundness, then the id; else the frame would pass `to`.
abbrev pub why_by : FrameLength → Bool → Bool → Stop
why_by LengthFree unsound own = Free
why_by (LengthWriting n) unsound own = Writing n
why_by (Finished n) unsound own = cond unsound UnsoundFrame (cond own PastSecond OtherTerm)

unfoldable pub why : Stream → ℕ → ℕ → Stop
why s to p = cond (p == to) Reached (why_by (length_at (bytes_at s p)) (is_unsound (seen s p)) (own_id s p))
