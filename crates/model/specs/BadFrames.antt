-- R-7 of document 02: bad frames by place. The ladders of the reading calls as document 01 had them, with 17 for any unsound frame, stand here beside
-- those of TermReader, TermScan, Image and FragmentAssembler, and `BadFrames` says that a call answers now what it answered then, with 17 replaced.
-- Proved in proofs/BadFrames.antt.
use Rattle.std.specs.Prelude.{◌≡◌, ◌⊎◌, ℕ, ◌+◌, ◌-◌, ◌*◌, ◌%◌, ◌≤◌, min, Bool, true, cond, ◌&&◌, ◌||◌, not, List, [], eqb, leb, ltb, length, drop, ℤ, pos, Result, Ok, Err, ⊤}
use Rattle.model.specs.declared.LogRecord.{LogRecord}
use Rattle.model.specs.declared.Reading.{Reading}
use Rattle.model.specs.declared.Error.{Error}
use Rattle.model.specs.declared.Error.TheVariants.{IllegalArgument, IllegalRecord, PositionOutOfRange, NewPositionOutOfRange, NewPositionNotAligned}
use Rattle.model.specs.declared.ReadVerdict.{ReadVerdict}
use Rattle.model.specs.declared.ReadVerdict.TheVariants.{Read, Closed}
use Rattle.model.specs.Bytes.{word, long}
use Rattle.model.specs.Answers.{Told, refused, frames_told, read_told, scanned_told, gap_told, availability_told, polled_told, peeked_told, block_told, assembled_told}
use Rattle.model.specs.DataFrameHeader.{header_at}
use Rattle.model.specs.FrameDescriptor.{frame_at, is_unsound, unsound_length}
use Rattle.model.specs.LogBufferDescriptor.{partition_of, reading, sound, good_partition, good_offset, within_term, good_position}
use Rattle.model.specs.TermReader.{walk, first_unsound, natural, good_entries, good_actions, good_control, good_walk, good_handler, good_start, frames_by, frames_of, read_walk, read_by, read_of}
use Rattle.model.specs.TermScan.{scan_from, scan_by, scan_of, good_mark, rebuild, gap_at, gap_by, gap_of, available_from, availability_by, availability_of}
use Rattle.model.specs.Image.{Image, end_offset, walk_at, unsound_at, polled_by, poll_of, bounded_poll_of, controlled_poll_of, peek_walk, peeked_by, peek_of, block_end, block_length, block_by, block_poll_of}
use Rattle.model.specs.FragmentAssembler.{Sessions, good_assembly, assemble_by, assemble_of}
use Rattle.model.specs.Replay.{ReplayState, poll_one, assemble_one, next_of}

-- ---- the reading calls, with their arguments beside record and log; a replay is told of at the end

pub data Reads : Type 0 where
  frames : ℕ → ℕ → ℕ → ℕ → ℕ → List ℕ → List ℤ → Reads
  read : ℤ → ℤ → ℤ → List ℤ → Reads
  scan : ℤ → ℤ → ℤ → Reads
  gap : ℤ → ℤ → ℤ → ℤ → Reads
  availability : ℤ → ℤ → ℤ → Reads
  poll : Image → List ℤ → ℤ → Reads
  bounded_poll : Image → List ℤ → ℤ → ℤ → Reads
  controlled_poll : Image → List ℤ → List ℕ → ℤ → Reads
  peek : Image → List ℤ → List ℕ → ℤ → ℤ → Reads
  block_poll : Image → ℤ → Reads
  assemble : Sessions → List ℕ → ℤ → ℤ → Reads

-- what a call answers now, as number and values
abbrev pub answer_now : LogRecord → List ℕ → Reads → Told
answer_now r log (frames base term end at limit acts slots) = frames_told (frames_of log base term end at limit acts slots)
answer_now r log (read partition offset limit slots) = read_told (read_of r log partition offset limit slots)
answer_now r log (scan partition offset limit) = scanned_told (scan_of r log partition offset limit)
answer_now r log (gap partition id offset high) = gap_told (gap_of r log partition id offset high)
answer_now r log (availability partition offset maximum) = availability_told (availability_of r log partition offset maximum)
answer_now r log (poll i slots limit) = polled_told (poll_of r log i slots limit).answer
answer_now r log (bounded_poll i slots bound limit) = polled_told (bounded_poll_of r log i slots bound limit).answer
answer_now r log (controlled_poll i slots acts limit) = polled_told (controlled_poll_of r log i slots acts limit).answer
answer_now r log (peek i slots acts start bound) = peeked_told (peek_of r log i slots acts start bound)
answer_now r log (block_poll i limit) = block_told (block_poll_of r log i limit).answer
answer_now r log (assemble s buffer partition offset) = assembled_told (assemble_of r log s buffer partition offset).answer

-- the frame that it meets first: where the term starts, and the offset in it
abbrev pub base_met : LogRecord → Reads → ℕ
base_met r (frames base term end at limit acts slots) = base
base_met r (read partition offset limit slots) = word partition * (reading r).term
base_met r (scan partition offset limit) = word partition * (reading r).term
base_met r (gap partition id offset high) = word partition * (reading r).term
base_met r (availability partition offset maximum) = word partition * (reading r).term
base_met r (poll i slots limit) = partition_of (long i.position) (reading r).term * (reading r).term
base_met r (bounded_poll i slots bound limit) = partition_of (long i.position) (reading r).term * (reading r).term
base_met r (controlled_poll i slots acts limit) = partition_of (long i.position) (reading r).term * (reading r).term
base_met r (peek i slots acts start bound) = partition_of (long start) (reading r).term * (reading r).term
base_met r (block_poll i limit) = partition_of (long i.position) (reading r).term * (reading r).term
base_met r (assemble s buffer partition offset) = word partition * (reading r).term

abbrev pub place_met : LogRecord → Reads → ℕ
place_met r (frames base term end at limit acts slots) = at
place_met r (read partition offset limit slots) = word offset
place_met r (scan partition offset limit) = word offset
place_met r (gap partition id offset high) = word offset
place_met r (availability partition offset maximum) = word offset
place_met r (poll i slots limit) = long i.position % (reading r).term
place_met r (bounded_poll i slots bound limit) = long i.position % (reading r).term
place_met r (controlled_poll i slots acts limit) = long i.position % (reading r).term
place_met r (peek i slots acts start bound) = long start % (reading r).term
place_met r (block_poll i limit) = long i.position % (reading r).term
place_met r (assemble s buffer partition offset) = word offset

-- ---- the ladders as document 01 had them

pub data Before : Type 0 where
  passed shut seventeen : Before
  refused_by : Error → Before

abbrev pub row17 : Bool → Before
row17 unsound = cond unsound seventeen passed

abbrev pub rows_before : Bool → Bool → Bool → Before
rows_before good sound unsound = cond good (cond sound (row17 unsound) (refused_by IllegalRecord)) (refused_by IllegalArgument)

-- 1, 2, closed, 3, and then `rest`
abbrev pub readable_before : Bool → Reading → ℕ → Image → Before → Before
readable_before good v n i rest =
    cond (not good) (refused_by IllegalArgument)
    (cond (not (sound v n)) (refused_by IllegalRecord)
    (cond i.closed shut
    (cond (not (good_position v (long i.position))) (refused_by PositionOutOfRange)
    rest)))

-- 15, 16, and then `rest`
abbrev pub reachable_before : Reading → ℕ → ℕ → Before → Before
reachable_before v current new rest =
    cond (ltb new current || ltb (current - current % v.term + v.term) new) (refused_by NewPositionOutOfRange)
    (cond (not (eqb (new % 32) 0)) (refused_by NewPositionNotAligned)
    rest)

-- the first frame of a scan, a gap scan or an availability scan
abbrev pub unsound_met : LogRecord → List ℕ → ℤ → ℤ → Bool
unsound_met r log partition offset = is_unsound (frame_at (drop (word partition * (reading r).term + word offset) log) ((reading r).term - word offset))

-- 1, 2, closed, 3, 17
abbrev pub poll_before : Reading → List ℕ → Image → Bool → ℕ → ℕ → Before
poll_before v log i good end limit = readable_before good v (length log) i (row17 (unsound_at v log (long i.position) end limit))

abbrev pub before : LogRecord → List ℕ → Reads → Before
before r log (frames base term end at limit acts slots) =
    cond (good_walk (length log) base term end at limit (length slots) && good_handler acts limit) (row17 (first_unsound log base term end at limit)) (refused_by IllegalArgument)
before r log (read partition offset limit slots) =
    rows_before (good_partition (word partition) && (good_start (word offset) (reading r) && good_entries (length slots) (natural limit))) (sound (reading r) (length log))
    (first_unsound log (word partition * (reading r).term) (reading r).term (reading r).term (word offset) (natural limit))
before r log (scan partition offset limit) =
    rows_before (good_partition (word partition) && (good_offset (word offset) (reading r) && within_term (natural limit) (reading r))) (sound (reading r) (length log))
    (ltb (word offset) (natural limit) && unsound_met r log partition offset)
before r log (gap partition id offset high) =
    rows_before (good_partition (word partition) && (good_offset (word offset) (reading r) && good_mark high r)) (sound (reading r) (length log))
    (unsound_met r log partition offset)
before r log (availability partition offset maximum) =
    rows_before (good_partition (word partition) && good_offset (word offset) (reading r)) (sound (reading r) (length log)) (unsound_met r log partition offset)
before r log (poll i slots limit) =
    poll_before (reading r) log i (good_entries (length slots) (natural limit)) (reading r).term (natural limit)
before r log (bounded_poll i slots bound limit) =
    poll_before (reading r) log i (good_entries (length slots) (natural limit)) (end_offset (reading r) (long i.position) (natural bound)) (natural limit)
before r log (controlled_poll i slots acts limit) =
    poll_before (reading r) log i (good_entries (length slots) (natural limit) && good_control acts (natural limit)) (reading r).term (natural limit)
before r log (peek i slots acts start bound) =
    readable_before (good_entries (length slots) (length acts) && (good_actions acts && leb (length acts) 2147483647)) (reading r) (length log) i
    (reachable_before (reading r) (long i.position) (long start)
    (row17 (unsound_at (reading r) log (long start) (end_offset (reading r) (long start) (natural bound)) (length acts))))
before r log (block_poll i limit) = poll_before (reading r) log i true (block_end (reading r) (long i.position) (natural limit)) 1
before r log (assemble s buffer partition offset) =
    rows_before (good_assembly (reading r) log (length buffer) (word partition) (word offset)) (sound (reading r) (length log))
    (unsound_length (header_at (drop (word partition * (reading r).term + word offset) log)).length ((reading r).term - word offset))

-- ---- the answers

-- only an image is ever closed
abbrev pub as_verdict : Result ReadVerdict Error → Result ⊤ Error
as_verdict (Ok Read) = Ok tt
as_verdict (Ok Closed) = Ok tt
as_verdict (Err e) = Err e

-- what a call answers by its verdict: R-7 changed nothing here
abbrev pub answer_by : LogRecord → List ℕ → Reads → Result ReadVerdict Error → Told
answer_by r log (frames base term end at limit acts slots) x = frames_told (frames_by (walk term log base term end at limit acts) (as_verdict x))
answer_by r log (read partition offset limit slots) x =
    read_told (read_by (word offset) (read_walk (reading r) log (word partition) (word offset) (natural limit)) (as_verdict x))
answer_by r log (scan partition offset limit) x =
    scanned_told (scan_by (scan_from (reading r).term log (word partition * (reading r).term) (reading r).term (natural limit) true (word offset)) (as_verdict x))
answer_by r log (gap partition id offset high) x =
    gap_told (gap_by (gap_at r log (word partition) id (word high)
    (rebuild (reading r).term log (word partition * (reading r).term) (reading r).term (word high) (word offset))) (as_verdict x))
answer_by r log (availability partition offset maximum) x =
    availability_told (availability_by (available_from (reading r).term log (word partition * (reading r).term) (reading r).term (word offset)
    (min (natural maximum) ((reading r).term - word offset)) 0 0) (as_verdict x))
answer_by r log (poll i slots limit) x = polled_told (polled_by (walk_at (reading r) log (long i.position) (reading r).term (natural limit) []) x)
answer_by r log (bounded_poll i slots bound limit) x =
    polled_told (polled_by (walk_at (reading r) log (long i.position) (end_offset (reading r) (long i.position) (natural bound)) (natural limit) []) x)
answer_by r log (controlled_poll i slots acts limit) x =
    polled_told (polled_by (walk_at (reading r) log (long i.position) (reading r).term (natural limit) acts) x)
answer_by r log (peek i slots acts start bound) x = peeked_told (peeked_by start (peek_walk (reading r) log acts (long start) (natural bound)) x)
answer_by r log (block_poll i limit) x =
    block_told (block_by (reading r) log i (block_length (reading r) log (long i.position) (natural limit)) x)
answer_by r log (assemble s buffer partition offset) x =
    assembled_told (assemble_by s buffer (drop (word partition * (reading r).term + word offset) log) (word offset) (as_verdict x)).answer

-- the old verdict answered, with what is said for 17
abbrev pub saying : Told → (Result ReadVerdict Error → Told) → Before → Told
saying for17 by passed = by (Ok Read)
saying for17 by shut = by (Ok Closed)
saying for17 by seventeen = for17
saying for17 by (refused_by e) = refused e

-- as document 01 had it
abbrev pub answer_before : LogRecord → List ℕ → Reads → Told
answer_before r log c = saying (record { number = pos 17; values = []; place = 0 }) (answer_by r log c) (before r log c)

-- 22 where the frame's length is below 32, else 23, and the place
abbrev pub in_place_of17 : ℕ → ℕ → Told
in_place_of17 n place = record { number = cond (ltb n 32) (pos 22) (pos 23); values = []; place = place }

-- for every record, log and reading call: `answer_before` with 17 replaced
unfoldable pub BadFrames : Type 0
BadFrames =
    (r : LogRecord) (log : List ℕ) (c : Reads)
    → answer_now r log c ≡ saying (in_place_of17 (header_at (drop (base_met r c + place_met r c) log)).length (place_met r c)) (answer_by r log c) (before r log c)

-- A replay makes no refusal of a frame itself: what it refuses behind row 1 of its lent buffer, one of its polls or the assembler refused.
unfoldable pub ReplaysPassOn : Type 0
ReplaysPassOn =
    (r : LogRecord) (log : List ℕ) (s : ReplayState) (e : Error) → length s.buffer ≤ 2147483647 → (next_of r log s).answer ≡ Err e
    → (t : ReplayState) × (((poll_one r log t.image).answer ≡ Err e) ⊎ ((assemble_one r log t).answer ≡ Err e))
