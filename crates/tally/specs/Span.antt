-- The rows that the two positions of a walk meet, in order 1, 2, 3, and then 22 or 23 for its first frame. Read Tally next.
use Rattle.std.specs.Prelude.{ℕ, ◌*◌, ◌%◌, Bool, cond, ◌&&◌, List, ℤ, pos, ◌-ℤ◌, ◌*ℤ◌, int_le, nat_lt, Result, Err, ⊤}
use Rattle.model.specs.declared.Error.{Error}
use Rattle.model.specs.declared.LogRecord.{LogRecord}
use Rattle.model.specs.declared.Error.TheVariants.{PositionOutOfRange}
use Rattle.model.specs.Bytes.{long}
use Rattle.model.specs.FrameDescriptor.{is_unsound, unsound_frame_at}
use Rattle.model.specs.LogBufferDescriptor.{partition_of, reading, sound, first_rows, frame_row, good_position}
use Rattle.tally.specs.Walk.{frame_in}

-- row 1: in order, and at most three terms apart, by the term length that the record holds, sound or not
unfoldable pub good_span : ℤ → ℤ → ℤ → Bool
good_span term from to = int_le from to && int_le (to -ℤ from) (pos 3 *ℤ term)

-- 1, 2 for a log of n bytes, 3 for either position, and then `rest`
unfoldable pub span_rows : LogRecord → ℕ → ℤ → ℤ → Result ⊤ Error → Result ⊤ Error
span_rows r n from to rest =
    first_rows (good_span r.term_length from to) (sound (reading r) n)
    (cond (good_position (reading r) (long from) && good_position (reading r) (long to)) rest (Err PositionOutOfRange))

-- 22 or 23: the first frame of the whole walk is looked at and is unsound. Its place is its offset in its term.
unfoldable pub first_frame : ℕ → List ℕ → ℕ → ℕ → Result ⊤ Error
first_frame term log from to =
    frame_row (nat_lt from to && is_unsound (frame_in term log from)) (unsound_frame_at log (partition_of from term * term) (from % term))
