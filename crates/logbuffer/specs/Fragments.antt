-- The assembler in steps, for a reader who takes one fragment after another and keeps the sessions himself: a data frame's numbers, and its body laid behind
-- what its session holds. `laid-joins` (proofs/Fragments.antt) says that a body that is laid is the assembler's own step.
use Rattle.std.specs.Prelude.{ℕ, ◌+◌, ◌*◌, Bool, cond, not, ◌&&◌, List, length, take, drop, nat_le, nat_lt, Option, Some, None}
use Rattle.model.specs.Bytes.{splice}
use Rattle.model.specs.FrameDescriptor.{frame_at, flags_at, begins, ends}
use Rattle.model.specs.FragmentAssembler.{part_length, session_at}
use Rattle.logbuffer.specs.Whole.{data_length}
use Rattle.logbuffer.specs.declared.fragment_assembler.FragmentHeader.{FragmentHeader}
use Rattle.logbuffer.specs.declared.fragment_assembler.Laid.{Laid}

-- ---- a data frame's numbers

abbrev pub numbers_of : ℕ → List ℕ → FragmentHeader
numbers_of n frame = record { length = n; flags = flags_at frame; session = session_at frame }

-- of the one at an index, with so many bytes to the term's end, if it lies whole in the log
unfoldable pub fragment_at : List ℕ → ℕ → ℕ → Option FragmentHeader
fragment_at log at room =
    let n = data_length (frame_at (drop at log) room) in
    cond (nat_lt 0 n && nat_le (at + n) (length log)) (Some (numbers_of n (drop at log))) None

-- ---- a body, laid

-- its frame begins a message that it does not end, or its session is entered and holds a byte
abbrev pub joins : ℕ → ℕ → ℕ → ℕ → Bool
joins count place held flags = cond (begins flags) (not (ends flags)) (nat_lt place count && nat_lt 0 held)

-- the bytes that it is laid behind: a begin frame drops what its session held
abbrev pub behind : ℕ → ℕ → ℕ
behind held flags = cond (begins flags) 0 held

-- n bytes at an index of a log of such a size join what a session at one of the 16 places holds in its part of the lent buffer, and fit there
unfoldable pub is_laid : ℕ → ℕ → ℕ → ℕ → ℕ → ℕ → ℕ → ℕ → Bool
is_laid count place held flags n size lent at =
    nat_lt place 16 && (joins count place held flags && (nat_lt 0 n && (nat_le (behind held flags + n) (part_length lent) && nat_le (at + n) size)))

-- what the session then holds, and whether the message ends, if it is laid; the lent buffer
abbrev pub laid_of : ℕ → ℕ → ℕ → ℕ → ℕ → ℕ → ℕ → ℕ → Option Laid
laid_of count place held flags n size lent at =
    cond (is_laid count place held flags n size lent at) (Some (record { held = behind held flags + n; ends = ends flags })) None

abbrev pub laid_bytes : ℕ → ℕ → ℕ → ℕ → ℕ → List ℕ → List ℕ → ℕ → List ℕ
laid_bytes count place held flags n log buffer at =
    cond (is_laid count place held flags n (length log) (length buffer) at) (splice buffer (place * part_length (length buffer) + behind held flags) (take n (drop at log))) buffer
