-- Where a log's bytes went: four sums over the frames that a walk passed, each with its own meaning, where the walk ended, and why.
-- In order: 1, 2, 3, 22 or 23. Read Theorems next.
use Rattle.std.specs.Prelude.{ℕ, ◌+◌, ◌-◌, List, [], ◌∷◌, length, ℤ, pos, Result, Ok, Err, ⊤}
use Rattle.model.specs.declared.Error.{Error}
use Rattle.model.specs.declared.LogRecord.{LogRecord}
use Rattle.model.specs.declared.Frame.{Frame}
use Rattle.model.specs.declared.Frame.TheVariants.{Absent, Unsound, Padding, Data}
use Rattle.model.specs.Answers.{Told, answered, refused}
use Rattle.model.specs.Bytes.{long}
use Rattle.model.specs.FrameDescriptor.{align}
use Rattle.model.specs.LogBufferDescriptor.{reading}
use Rattle.tally.specs.declared.step.Stop.{Stop}
use Rattle.tally.specs.declared.step.Stop.TheVariants.{Reached, Writing, Free, OtherTerm, PastSecond, UnsoundFrame}
use Rattle.tally.specs.declared.Sums.{Sums}
use Rattle.tally.specs.declared.Tallied.{Tallied}
use Rattle.tally.specs.Walk.{Stream, stream_of, Passed, between, end_of, why}
use Rattle.tally.specs.Span.{span_rows, first_frame}

-- ---- what a frame adds

-- its body
abbrev pub body_of : Frame → ℕ
body_of Absent = 0
body_of (Unsound n) = 0
body_of (Padding n) = 0
body_of (Data n) = n - 32

-- its header
abbrev pub header_of : Frame → ℕ
header_of Absent = 0
header_of (Unsound n) = 0
header_of (Padding n) = 0
header_of (Data n) = 32

-- the bytes from its end to the next boundary
abbrev pub slack_of : Frame → ℕ
slack_of Absent = 0
slack_of (Unsound n) = 0
slack_of (Padding n) = 0
slack_of (Data n) = align n - n

-- a padding frame, an aborted claim too, at its aligned length
abbrev pub padding_of : Frame → ℕ
padding_of Absent = 0
padding_of (Unsound n) = 0
padding_of (Padding n) = align n
padding_of (Data n) = 0

-- what it adds to the four
abbrev pub share : Frame → Sums
share x = record { body = body_of x; headers = header_of x; slack = slack_of x; padding = padding_of x }

-- ---- the sums

unfoldable pub sum : (Frame → ℕ) → List Passed → ℕ
sum part [] = 0
sum part (f ∷ fs) = part f.frame + sum part fs

abbrev pub sums_of : List Passed → Sums
sums_of fs = record { body = sum body_of fs; headers = sum header_of fs; slack = sum slack_of fs; padding = sum padding_of fs }

abbrev pub plus : Sums → Sums → Sums
plus a b = record { body = a.body + b.body; headers = a.headers + b.headers; slack = a.slack + b.slack; padding = a.padding + b.padding }

abbrev pub total : Sums → ℕ
total s = s.body + s.headers + s.slack + s.padding

-- ---- tally: record, log, two positions

unfoldable pub tally_verdict : LogRecord → List ℕ → ℤ → ℤ → Result ⊤ Error
tally_verdict r log from to = span_rows r (length log) from to (first_frame (reading r).term log (long from) (long to))

-- the sums over the frames passed, where the walk from a position up to another ended, and why
abbrev pub tallied_by : Stream → ℕ → ℕ → Result ⊤ Error → Result Tallied Error
tallied_by s from to (Ok _) = Ok (record { sums = sums_of (between s from to); end = pos (end_of from (between s from to)); stop = why s to (end_of from (between s from to)) })
tallied_by s from to (Err e) = Err e

unfoldable pub tally_of : LogRecord → List ℕ → ℤ → ℤ → Result Tallied Error
tally_of r log from to = tallied_by (stream_of r log) (long from) (long to) (tally_verdict r log from to)

-- ---- the numbers of an answer: the position where the walk ended, why by number, the size of a frame being written, and the four sums

abbrev pub stop_number : Stop → ℕ
stop_number Reached = 0
stop_number (Writing n) = 1
stop_number Free = 2
stop_number OtherTerm = 3
stop_number PastSecond = 4
stop_number UnsoundFrame = 5

abbrev pub writing_size : Stop → ℕ
writing_size Reached = 0
writing_size (Writing n) = n
writing_size Free = 0
writing_size OtherTerm = 0
writing_size PastSecond = 0
writing_size UnsoundFrame = 0

abbrev pub tally_told : Result Tallied Error → Told
tally_told (Ok tally) =
    answered (tally.end ∷ pos (stop_number tally.stop) ∷ pos (writing_size tally.stop) ∷ pos tally.sums.body ∷ pos tally.sums.headers ∷ pos tally.sums.slack ∷ pos tally.sums.padding ∷ [])
tally_told (Err e) = refused e
