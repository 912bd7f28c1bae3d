-- A frame that holds a whole message, as it lies in a log: a reader hands it out without a poll and without the assembler.
use Rattle.std.specs.Prelude.{ℕ, zero, suc, ◌+◌, cond, ◌&&◌, List, length, drop, nat_le, Option, Some, None}
use Rattle.model.specs.declared.Frame.{Frame}
use Rattle.model.specs.declared.Frame.TheVariants.{Absent, Unsound, Padding, Data}
use Rattle.model.specs.FrameDescriptor.{frame_at, flags_at, begins, ends}

-- the length of a data frame; 0 for any other
abbrev pub data_length : Frame → ℕ
data_length Absent = 0
data_length (Unsound n) = 0
data_length (Padding n) = 0
data_length (Data n) = n

-- of one that begins and ends a message
abbrev pub whole_length : ℕ → Frame → ℕ
whole_length flags x = cond (begins flags && ends flags) (data_length x) 0

-- a length as the code finds it: none where it is 0
abbrev pub length_found : ℕ → Option ℕ
length_found zero = None
length_found (suc n) = Some (suc n)

-- at an index of a log, with so many bytes to the term's end; 0 where no header has room before the log's end
unfoldable pub whole_frame : List ℕ → ℕ → ℕ → ℕ
whole_frame log at room = cond (nat_le (at + 32) (length log)) (whole_length (flags_at (drop at log)) (frame_at (drop at log) room)) 0
