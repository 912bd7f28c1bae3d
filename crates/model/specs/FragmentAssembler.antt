-- The assembler: up to 16 sessions over one lent buffer ("Reading" in document 01, third paragraph). In order: 1, 2, 22 or 23, 18.
use Rattle.std.specs.Prelude.{ℕ, suc, ◌+◌, ◌-◌, ◌*◌, ◌/◌, min, Bool, cond, ◌&&◌, ◌||◌, List, [], ◌∷◌, eqb, leb, ltb, length, take, drop, get_or, set, replicate, ℤ, pos, Result, Ok, Err, ⊤}
use Rattle.model.specs.declared.Error.{Error}
use Rattle.std.specs.Int.{w32}
use Rattle.std.proofs.Common.{to_z}
use Rattle.model.specs.declared.LogRecord.{LogRecord}
use Rattle.model.specs.declared.Reading.{Reading}
use Rattle.model.specs.declared.Error.TheVariants.{AssemblyFull}
use Rattle.model.specs.declared.Joining.{Joining}
use Rattle.model.specs.declared.Joining.TheVariants.{Through, Ignore, Full, TooLong, Join, Complete}
use Rattle.model.specs.declared.Assembled.{Assembled}
use Rattle.model.specs.declared.Assembled.TheVariants.{Nothing, Fragment, Message}
use Rattle.model.specs.Bytes.{word, splice}
use Rattle.model.specs.DataFrameHeader.{header_at}
use Rattle.model.specs.FrameDescriptor.{is_finished, length_at, unsound_length, unsound_frame_at, flags_at, begins, ends}
use Rattle.model.specs.LogBufferDescriptor.{reading, sound, good_partition, good_offset, first_rows, frame_row}

-- The bookkeeping: how many sessions are entered, their ids, and how many bytes each holds. A count over 16 is taken as 16.
pub record Sessions : Type 0 where
  pub count : ℕ
  pub ids : List ℤ
  pub held : List ℕ

abbrev pub fresh : Sessions
fresh = record { count = 0; ids = replicate 16 (pos 0); held = replicate 16 0 }

abbrev pub entered : Sessions → ℕ
entered s = min s.count 16

-- a session's place: its first among those entered, or the place after them
unfoldable pub place_in : List ℤ → ℤ → ℕ
place_in [] session = 0
place_in (x ∷ xs) session = cond (eqb (word x) (word session)) 0 (suc (place_in xs session))

abbrev pub place_of : Sessions → ℤ → ℕ
place_of s session = place_in (take (entered s) s.ids) session

-- the session at a place, entered, with so many bytes held
unfoldable pub holding : Sessions → ℕ → ℤ → ℕ → Sessions
holding s k session n =
    record { count = cond (ltb k (entered s)) (entered s) (suc k); ids = set s.ids k session; held = set s.held k n }

-- the lent buffer is cut into 16 equal parts, rounded down
abbrev pub part_length : ℕ → ℕ
part_length n = n / 16

-- What is done with a frame of a body of n bytes: an unfragmented message passes through; a begin frame drops what its session held;
-- any other is ignored unless its session holds at least one byte.
unfoldable pub joining : Sessions → ℤ → ℕ → ℕ → ℕ → Joining
joining s session flags n part =
    cond (begins flags && ends flags) Through
    (cond (begins flags)
    (cond (leb 16 (place_of s session)) Full
    (cond (ltb part n) (TooLong (place_of s session)) (Join (place_of s session) 0)))
    (cond (leb (entered s) (place_of s session) || eqb (get_or s.held (place_of s session) 0) 0) Ignore
    (cond (ltb part (get_or s.held (place_of s session) 0 + n)) (TooLong (place_of s session))
    (cond (ends flags) (Complete (place_of s session) (get_or s.held (place_of s session) 0))
    (Join (place_of s session) (get_or s.held (place_of s session) 0))))))

-- the next bookkeeping, the lent buffer and the answer, for the body of n bytes at an offset of its term
abbrev pub sessions_by : Sessions → ℤ → ℕ → Joining → Sessions
sessions_by s session n Through = s
sessions_by s session n Ignore = s
sessions_by s session n Full = s
sessions_by s session n (TooLong k) = holding s k session 0
sessions_by s session n (Join k from) = holding s k session (from + n)
sessions_by s session n (Complete k from) = holding s k session 0

abbrev pub buffer_by : List ℕ → List ℕ → Joining → List ℕ
buffer_by buffer body Through = buffer
buffer_by buffer body Ignore = buffer
buffer_by buffer body Full = buffer
buffer_by buffer body (TooLong k) = buffer
buffer_by buffer body (Join k from) = splice buffer (k * part_length (length buffer) + from) body
buffer_by buffer body (Complete k from) = splice buffer (k * part_length (length buffer) + from) body

abbrev pub assembled_by : ℕ → ℕ → ℕ → Joining → Result Assembled Error
assembled_by at n part Through = Ok (Fragment at n)
assembled_by at n part Ignore = Ok Nothing
assembled_by at n part Full = Err AssemblyFull
assembled_by at n part (TooLong k) = Err AssemblyFull
assembled_by at n part (Join k from) = Ok Nothing
assembled_by at n part (Complete k from) = Ok (Message (k * part) (from + n))

-- ---- the entry point: record, log, bookkeeping, lent buffer, partition, offset of a frame

-- a frame of positive length at a place of the term, its length word present
abbrev pub good_frame : List ℕ → ℕ → Bool
good_frame log at = leb (at + 4) (length log) && is_finished (length_at (drop at log))

-- 1
abbrev pub good_assembly : Reading → List ℕ → ℕ → ℕ → ℕ → Bool
good_assembly v log buffer k at = leb buffer 2147483647 && (good_partition k && (good_offset at v && good_frame log (k * v.term + at)))

-- 1, 2, 22 or 23
unfoldable pub assemble_verdict : Reading → List ℕ → ℕ → ℕ → ℕ → Result ⊤ Error
assemble_verdict v log buffer k at =
    first_rows (good_assembly v log buffer k at) (sound v (length log))
    (frame_row (unsound_length (header_at (drop (k * v.term + at) log)).length (v.term - at)) (unsound_frame_at log (k * v.term) at))

pub record Assembly : Type 0 where
  pub answer : Result Assembled Error
  pub next : Sessions
  pub buffer : List ℕ

-- the session and the length of the body of the frame at the beginning of `frame`, a log from its place on
abbrev pub session_at : List ℕ → ℤ
session_at frame = to_z w32 (header_at frame).session

abbrev pub body_length : List ℕ → ℕ
body_length frame = (header_at frame).length - 32

abbrev pub joined : Sessions → List ℕ → List ℕ → ℕ → Joining → Assembly
joined s buffer frame at x =
    record {
      answer = assembled_by (at + 32) (body_length frame) (part_length (length buffer)) x;
      next = sessions_by s (session_at frame) (body_length frame) x;
      buffer = buffer_by buffer (take (body_length frame) (drop 32 frame)) x;
    }

abbrev pub joined_at : Sessions → List ℕ → List ℕ → ℕ → Assembly
joined_at s buffer frame at =
    joined s buffer frame at (joining s (session_at frame) (flags_at frame) (body_length frame) (part_length (length buffer)))

abbrev pub assemble_by : Sessions → List ℕ → List ℕ → ℕ → Result ⊤ Error → Assembly
assemble_by s buffer frame at (Err e) = record { answer = Err e; next = s; buffer = buffer }
assemble_by s buffer frame at (Ok _) = joined_at s buffer frame at

unfoldable pub assemble_of : LogRecord → List ℕ → Sessions → List ℕ → ℤ → ℤ → Assembly
assemble_of r log s buffer partition offset =
    assemble_by s buffer (drop (word partition * (reading r).term + word offset) log) (word offset)
    (assemble_verdict (reading r) log (length buffer) (word partition) (word offset))
