-- An image: its polls, the peek, the block poll, and its position ("Reading" in document 01). A call answers and hands the next image
-- back. In order: 1, 2, closed, 3, 15, 16, 22 or 23. Read FragmentAssembler next.
use Rattle.std.specs.Prelude.{ℕ, ◌+◌, ◌-◌, ◌*◌, ◌%◌, min, Bool, true, false, cond, ◌&&◌, ◌||◌, not, List, [], eqb, leb, ltb, length, drop, ℤ, pos, Result, Ok, Err, ⊤}
use Rattle.std.specs.Int.Signed.{le_z}
use Rattle.std.specs.Int.{w32}
use Rattle.std.proofs.Common.{to_z}
use Rattle.model.specs.declared.LogRecord.{LogRecord}
use Rattle.model.specs.declared.Reading.{Reading}
use Rattle.model.specs.declared.Error.{Error}
use Rattle.model.specs.declared.Error.TheVariants.{IllegalArgument, IllegalRecord, PositionOutOfRange, NewPositionOutOfRange, NewPositionNotAligned}
use Rattle.model.specs.declared.ReadVerdict.{ReadVerdict}
use Rattle.model.specs.declared.ReadVerdict.TheVariants.{Read, Closed}
use Rattle.model.specs.declared.Polled.{Polled}
use Rattle.model.specs.declared.Peeked.{Peeked}
use Rattle.model.specs.declared.Block.{Block}
use Rattle.model.specs.Bytes.{long}
use Rattle.model.specs.DataFrameHeader.{header_at}
use Rattle.model.specs.FrameDescriptor.{unsound_frame_at}
use Rattle.model.specs.LogBufferDescriptor.{partition_of, reading, good_position, sound}
use Rattle.model.specs.TermReader.{Walked, walk, first_unsound, natural, good_entries, good_actions, good_control, laid}
use Rattle.model.specs.TermScan.{scan_from}

-- position, session, whether it is closed, and the end-of-stream flag kept at closing
pub record Image : Type 0 where
  pub position : ℤ
  pub session : ℤ
  pub closed : Bool
  pub eos : Bool

abbrev pub new_image : ℤ → ℤ → Image
new_image position session = record { position = position; session = session; closed = false; eos = false }

abbrev pub moved_to : Image → ℤ → Image
moved_to i p = record { position = p; session = i.session; closed = i.closed; eos = i.eos }

-- ---- the ladder

abbrev pub refuse_if : Bool → Error → Result ReadVerdict Error → Result ReadVerdict Error
refuse_if b e rest = cond b (Err e) rest

-- 1, 2, closed, 3, and then `rest`
unfoldable pub readable : Bool → Reading → ℕ → Image → Result ReadVerdict Error → Result ReadVerdict Error
readable good v n i rest =
    refuse_if (not good) IllegalArgument
    (refuse_if (not (sound v n)) IllegalRecord
    (cond i.closed (Ok Closed)
    (refuse_if (not (good_position v (long i.position))) PositionOutOfRange
    rest)))

-- 15, 16: a new position from the current one to the end of its term, on a frame's boundary; and then `rest`
unfoldable pub reachable : Reading → ℕ → ℕ → Result ReadVerdict Error → Result ReadVerdict Error
reachable v current new rest =
    refuse_if (ltb new current || ltb (current - current % v.term + v.term) new) NewPositionOutOfRange
    (refuse_if (not (eqb (new % 32) 0)) NewPositionNotAligned
    rest)

-- ---- reading from a position

-- A read from p up to a limit position takes the frames that begin before this offset: the term's end, or less.
abbrev pub end_offset : Reading → ℕ → ℕ → ℕ
end_offset v p limit = min v.term (p % v.term + (limit - p))

abbrev pub walk_at : Reading → List ℕ → ℕ → ℕ → ℕ → List ℕ → Walked
walk_at v log p end limit acts = walk v.term log (partition_of p v.term * v.term) v.term end (p % v.term) limit acts

abbrev pub unsound_at : Reading → List ℕ → ℕ → ℕ → ℕ → Bool
unsound_at v log p end limit = first_unsound log (partition_of p v.term * v.term) v.term end (p % v.term) limit

-- its refusal: the place is the position's offset in its term
abbrev pub unsound_frame_of : Reading → List ℕ → ℕ → Error
unsound_frame_of v log p = unsound_frame_at log (partition_of p v.term * v.term) (p % v.term)

-- ---- poll, bounded_poll, controlled_poll: one call, with where it ends, its fragment limit, its actions and what row 1 asks

unfoldable pub poll_verdict : Reading → List ℕ → Image → Bool → ℕ → ℕ → Result ReadVerdict Error
poll_verdict v log i good end limit =
    readable good v (length log) i
    (refuse_if (unsound_at v log (long i.position) end limit) (unsound_frame_of v log (long i.position))
    (Ok Read))

-- a closed image answers 0 and stays
abbrev pub polled_by : Walked → Result ReadVerdict Error → Result Polled Error
polled_by w (Ok Read) = Ok (record { fragments = w.fragments; entries = length w.entries })
polled_by w (Ok Closed) = Ok (record { fragments = 0; entries = 0 })
polled_by w (Err e) = Err e

abbrev pub image_by : Image → ℕ → Result ReadVerdict Error → Image
image_by i moved (Ok Read) = moved_to i (pos (long i.position + moved))
image_by i moved (Ok Closed) = i
image_by i moved (Err e) = i

abbrev pub slots_by : List ℤ → Walked → Result ReadVerdict Error → List ℤ
slots_by slots w (Ok Read) = laid slots w.entries
slots_by slots w (Ok Closed) = slots
slots_by slots w (Err e) = slots

-- what a call of the family says: its answer, the next image, the lent entries
pub record PollReply : Type 0 where
  pub answer : Result Polled Error
  pub next : Image
  pub slots : List ℤ

abbrev pub poll_reply : Image → List ℤ → Walked → Result ReadVerdict Error → PollReply
poll_reply i slots w x = record { answer = polled_by w x; next = image_by i w.moved x; slots = slots_by slots w x }

-- record, log, image, lent entries, fragment limit: to the term's end
unfoldable pub poll_of : LogRecord → List ℕ → Image → List ℤ → ℤ → PollReply
poll_of r log i slots limit =
    poll_reply i slots (walk_at (reading r) log (long i.position) (reading r).term (natural limit) [])
    (poll_verdict (reading r) log i (good_entries (length slots) (natural limit)) (reading r).term (natural limit))

-- also a limit position: no frame is read that begins at or past it
unfoldable pub bounded_poll_of : LogRecord → List ℕ → Image → List ℤ → ℤ → ℤ → PollReply
bounded_poll_of r log i slots bound limit =
    poll_reply i slots (walk_at (reading r) log (long i.position) (end_offset (reading r) (long i.position) (natural bound)) (natural limit) [])
    (poll_verdict (reading r) log i (good_entries (length slots) (natural limit)) (end_offset (reading r) (long i.position) (natural bound)) (natural limit))

-- also lent actions, not fewer than the fragment limit
unfoldable pub controlled_poll_of : LogRecord → List ℕ → Image → List ℤ → List ℕ → ℤ → PollReply
controlled_poll_of r log i slots acts limit =
    poll_reply i slots (walk_at (reading r) log (long i.position) (reading r).term (natural limit) acts)
    (poll_verdict (reading r) log i
    (good_entries (length slots) (natural limit) && good_control acts (natural limit))
    (reading r).term (natural limit))

-- ---- controlled_peek: record, log, image, lent entries (not fewer than the actions), actions, start, limit position

-- It has no fragment limit. It reads as many fragments as there are actions, so that a last byte of 3 or 4 acts as 2, and with no bytes
-- it reads nothing.
unfoldable pub peek_verdict : Reading → List ℕ → Image → ℕ → List ℕ → ℕ → ℕ → Result ReadVerdict Error
peek_verdict v log i slots acts start bound =
    readable (good_entries slots (length acts) && (good_actions acts && leb (length acts) 2147483647)) v (length log) i
    (reachable v (long i.position) start
    (refuse_if (unsound_at v log start (end_offset v start bound) (length acts)) (unsound_frame_of v log start)
    (Ok Read)))

-- a closed image answers the start; the result is the position after the last whole message or padding
abbrev pub peeked_by : ℤ → Walked → Result ReadVerdict Error → Result Peeked Error
peeked_by start w (Ok Read) = Ok (record { position = pos (long start + w.settled); entries = length w.entries })
peeked_by start w (Ok Closed) = Ok (record { position = start; entries = 0 })
peeked_by start w (Err e) = Err e

abbrev pub peek_walk : Reading → List ℕ → List ℕ → ℕ → ℕ → Walked
peek_walk v log acts start bound = walk_at v log start (end_offset v start bound) (length acts) acts

unfoldable pub peek_of : LogRecord → List ℕ → Image → List ℤ → List ℕ → ℤ → ℤ → Result Peeked Error
peek_of r log i slots acts start bound =
    peeked_by start (peek_walk (reading r) log acts (long start) (natural bound))
    (peek_verdict (reading r) log i (length slots) acts (long start) (natural bound))

unfoldable pub peek_slots : LogRecord → List ℕ → Image → List ℤ → List ℕ → ℤ → ℤ → List ℤ
peek_slots r log i slots acts start bound =
    slots_by slots (peek_walk (reading r) log acts (long start) (natural bound))
    (peek_verdict (reading r) log i (length slots) acts (long start) (natural bound))

-- ---- block_poll: record, log, image, a limit of bytes. A scan, whose block is answered.

abbrev pub block_end : Reading → ℕ → ℕ → ℕ
block_end v p limit = min v.term (p % v.term + limit)

abbrev pub block_length : Reading → List ℕ → ℕ → ℕ → ℕ
block_length v log p limit =
    scan_from v.term log (partition_of p v.term * v.term) v.term (block_end v p limit) true (p % v.term) - p % v.term

-- offset, length, the image's session, the first frame's term id; four zeros where the block is empty
abbrev pub block_by : Reading → List ℕ → Image → ℕ → Result ReadVerdict Error → Result Block Error
block_by v log i n (Ok Read) =
    cond (eqb n 0) (Ok (record { offset = 0; length = 0; session_id = pos 0; term_id = pos 0 }))
    (Ok (record {
      offset = long i.position % v.term;
      length = n;
      session_id = i.session;
      term_id = to_z w32 (header_at (drop (partition_of (long i.position) v.term * v.term + long i.position % v.term) log)).id;
    }))
block_by v log i n (Ok Closed) = Ok (record { offset = 0; length = 0; session_id = pos 0; term_id = pos 0 })
block_by v log i n (Err e) = Err e

abbrev pub block_verdict : LogRecord → List ℕ → Image → ℤ → Result ReadVerdict Error
block_verdict r log i limit = poll_verdict (reading r) log i true (block_end (reading r) (long i.position) (natural limit)) 1

pub record BlockReply : Type 0 where
  pub answer : Result Block Error
  pub next : Image

unfoldable pub block_poll_of : LogRecord → List ℕ → Image → ℤ → BlockReply
block_poll_of r log i limit =
    record {
      answer = block_by (reading r) log i (block_length (reading r) log (long i.position) (natural limit)) (block_verdict r log i limit);
      next = image_by i (block_length (reading r) log (long i.position) (natural limit)) (block_verdict r log i limit);
    }

-- ---- set_position, is_end_of_stream, close

pub record ImageReply : Type 0 where
  pub answer : Result ⊤ Error
  pub next : Image

-- on a closed image it does nothing
abbrev pub set_by : Image → ℤ → Result ReadVerdict Error → ImageReply
set_by i new (Ok Read) = record { answer = Ok tt; next = moved_to i new }
set_by i new (Ok Closed) = record { answer = Ok tt; next = i }
set_by i new (Err e) = record { answer = Err e; next = i }

unfoldable pub set_position_of : LogRecord → List ℕ → Image → ℤ → ImageReply
set_position_of r log i new = set_by i new (readable true (reading r) (length log) i (reachable (reading r) (long i.position) (long new) (Ok Read)))

-- the position is at or past the end of the stream
abbrev pub at_end : LogRecord → Image → Bool
at_end r i = le_z r.end_of_stream_position i.position

abbrev pub end_by : LogRecord → Image → Result ReadVerdict Error → Result Bool Error
end_by r i (Ok Read) = Ok (at_end r i)
end_by r i (Ok Closed) = Ok i.eos
end_by r i (Err e) = Err e

unfoldable pub end_of_stream_of : LogRecord → List ℕ → Image → Result Bool Error
end_of_stream_of r log i = end_by r i (readable true (reading r) (length log) i (Ok Read))

-- closing refuses only 2, and a closed image stays
unfoldable pub close_image_of : LogRecord → List ℕ → Image → ImageReply
close_image_of r log i =
    cond (sound (reading r) (length log))
    (record { answer = Ok tt; next = cond i.closed i (record { position = i.position; session = i.session; closed = true; eos = at_end r i }) })
    (record { answer = Err IllegalRecord; next = i })
