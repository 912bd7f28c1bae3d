-- A frame's length, flags and soundness ("Frame" in document 01), and what stands at a place of a log. Read LogBufferDescriptor next.
use Rattle.std.specs.Prelude.{ℕ, ◌+◌, ◌-◌, ◌*◌, ◌/◌, ◌%◌, Bool, true, false, cond, ◌||◌, List, eqb, ltb, drop}
use Rattle.model.specs.declared.Error.{Error}
use Rattle.model.specs.declared.Error.TheVariants.{FrameTooShort, FramePastTerm}
use Rattle.model.specs.declared.FrameLength.{FrameLength}
use Rattle.model.specs.declared.FrameLength.TheVariants.{Free, Writing, Finished}
use Rattle.model.specs.declared.Frame.{Frame}
use Rattle.model.specs.declared.Frame.TheVariants.{Absent, Unsound, Padding, Data}
use Rattle.model.specs.DataFrameHeader.{header_at}

-- the next multiple of 32: the "aligned length" of a frame
abbrev pub align : ℕ → ℕ
align n = (n + 31) / 32 * 32

-- the aligned length of the frame of a body of n bytes
abbrev pub space : ℕ → ℕ
space n = align (n + 32)

-- the bits of minus n, as a frame's length is stored while it is being written
abbrev pub negated : ℕ → ℕ
negated n = 4294967296 - n

-- The sign of the length word decides: free, being written with its size, 1 to 2147483648, or finished with its length. Whether the length is
-- one that a frame can have is not asked here: 5 is finished, and the bits of -5 are a frame of 5 being written.
unfoldable pub frame_length_of : ℕ → FrameLength
frame_length_of w = cond (eqb w 0) Free (cond (ltb w 2147483648) (Finished w) (Writing (4294967296 - w)))

abbrev pub is_finished : FrameLength → Bool
is_finished Free = false
is_finished (Writing n) = false
is_finished (Finished n) = true

abbrev pub is_writing : FrameLength → Bool
is_writing Free = false
is_writing (Writing n) = true
is_writing (Finished n) = false

-- the length of what stands at the beginning of s, a log from a frame's place on: every reader, scan and the assembler goes by it
abbrev pub length_at : List ℕ → FrameLength
length_at s = frame_length_of (header_at s).length

-- A frame is unsound if its length is 1 to 31, or its aligned length ends past the term, which is `room` bytes away.
abbrev pub unsound_length : ℕ → ℕ → Bool
unsound_length n room = ltb n 32 || ltb room (align n)

-- readers stop at a length of zero or less; type 0 is padding, and all others are data
abbrev pub frame_by : ℕ → ℕ → FrameLength → Frame
frame_by type room Free = Absent
frame_by type room (Writing n) = Absent
frame_by type room (Finished n) = cond (unsound_length n room) (Unsound n) (cond (eqb type 0) (Padding n) (Data n))

-- what stands at the beginning of s, a log from a frame's place on
unfoldable pub frame_at : List ℕ → ℕ → Frame
frame_at s room = frame_by (header_at s).type room (length_at s)

abbrev pub is_unsound : Frame → Bool
is_unsound Absent = false
is_unsound (Unsound n) = true
is_unsound (Padding n) = false
is_unsound (Data n) = false

-- The refusal of an unsound frame, made here for every reader, by its length and its place, which is its offset in its term (R-7 of document 02): 22
-- for a length of 1 to 31, 23 for a frame that runs past the term's end. No frame is both: where a frame begins, 32 bytes are left.
unfoldable pub unsound_frame : ℕ → ℕ → Error
unsound_frame n place = cond (ltb n 32) (FrameTooShort place) (FramePastTerm place)

-- that of the frame at an offset of the term that starts at base
abbrev pub unsound_frame_at : List ℕ → ℕ → ℕ → Error
unsound_frame_at log base at = unsound_frame (header_at (drop (base + at) log)).length at

-- the flags byte: 0x80 begins a message, 0x40 ends it
abbrev pub flags_at : List ℕ → ℕ
flags_at s = (header_at s).flags

abbrev pub begins : ℕ → Bool
begins flags = eqb (flags / 128 % 2) 1

abbrev pub ends : ℕ → Bool
ends flags = eqb (flags / 64 % 2) 1
