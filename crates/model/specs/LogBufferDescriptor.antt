-- The log record: raw tails, ids and positions, how it is read and judged (row 2), and the changes that calls make to it
-- ("Log record and positions" in document 01). Read TermAppender next.
--
--    +----------------+----------------+----------------+
--    |  partition 0   |  partition 1   |  partition 2   |     the log: three terms of one length, a partition each
--    +----------------+----------------+----------------+
--    0                T               2T               3T
use Rattle.std.specs.Prelude.{◌≡◌, ℕ, ◌+◌, ◌-◌, ◌*◌, ◌/◌, ◌%◌, ◌^◌, ◌≤◌, min, Bool, true, false, cond, ◌&&◌, List, eqb, leb, ltb, get_or, set, ℤ, pos, ◌+ℤ◌, ◌*ℤ◌, Result, Ok, Err, ⊤}
use Rattle.std.specs.Int.Count.{ones, count_trailing_zeros}
use Rattle.std.specs.Int.{w32, w64}
use Rattle.std.proofs.Common.{to_z}
use Rattle.model.specs.declared.LogRecord.{LogRecord}
use Rattle.model.specs.declared.Reading.{Reading}
use Rattle.model.specs.declared.Place.{Place}
use Rattle.model.specs.declared.Error.{Error}
use Rattle.model.specs.declared.Error.TheVariants.{IllegalArgument, IllegalRecord, LastTerm}
use Rattle.model.specs.declared.RecordReply.{RecordReply}
use Rattle.model.specs.Bytes.{word, long}

-- ---- numbers

-- one bit is set
abbrev pub is_power_of_two : ℕ → Bool
is_power_of_two n = eqb (ones n) 1

-- the bits to shift a term count by
abbrev pub bits_to_shift : ℕ → ℕ
bits_to_shift term = count_trailing_zeros 32 term

-- Term ids are taken as their 32 bits, and wrap (R-8 of document 02): after 2147483647 comes -2147483648.
abbrev pub id_bits : ℕ → ℕ
id_bits n = n % 4294967296

-- The id so many terms on, and an id less another or less so many terms. A term's count is its id less the initial one, as a signed number of
-- 32 bits.
abbrev pub id_plus : ℕ → ℕ → ℕ
id_plus id n = id_bits (id + n)

abbrev pub id_minus : ℕ → ℕ → ℕ
id_minus id n = id_bits (id + 4294967296 - n)

-- a raw tail: its term id, its offset, and the two put together
abbrev pub id_of : ℤ → ℕ
id_of raw = id_bits (long raw / 4294967296)

abbrev pub offset_of : ℤ → ℕ
offset_of raw = long raw % 4294967296

unfoldable pub raw_of : ℕ → ℕ → ℤ
raw_of id offset = to_z w64 (id_bits id * 4294967296 + offset)

-- the term's count × term length + offset
abbrev pub position_of : ℕ → ℕ → ℕ → ℕ → ℤ
position_of id initial term offset = to_z w32 (id_minus id initial) *ℤ pos term +ℤ pos offset

-- The same by the bits to shift, as the Rust computes it where the difference of the ids has 32 bits. An exact answer has room for shifts up to
-- 30, the largest of any term; past that it refuses 1.
unfoldable pub compute_position : ℤ → ℕ → ℕ → ℤ → Result ℤ Error
compute_position id offset bits initial = cond (ltb 30 bits) (Err IllegalArgument) (Ok (position_of (word id) (word initial) (2 ^ bits) offset))

-- the parts of a raw tail as the Rust answers them: the signed id, and the offset cut to a term length
abbrev pub term_id_of : ℤ → ℤ
term_id_of raw = to_z w32 (long raw / 4294967296)

abbrev pub term_offset_of : ℤ → ℕ → ℕ
term_offset_of raw term = min (offset_of raw) term

-- the partition of a term count, and of a position by the bits to shift
abbrev pub index_by_term_count : ℕ → ℕ
index_by_term_count count = count % 3

abbrev pub index_by_position : ℕ → ℕ → ℕ
index_by_position p bits = p / 2 ^ bits % 3

-- where a position lies: its partition, and its offset in the term
abbrev pub partition_of : ℕ → ℕ → ℕ
partition_of p term = p / term % 3

-- ---- the record, read

abbrev pub tail_of : LogRecord → ℕ → ℤ
tail_of r k = get_or r.tails k (pos 0)

-- with the tail of partition k
unfoldable pub reading_of : LogRecord → ℕ → Reading
reading_of r k =
    record {
      term = word r.term_length;
      mtu = word r.mtu_length;
      count = word r.active_term_count;
      initial = id_bits (word r.initial_term_id);
      session = word r.session_id;
      stream = word r.stream_id;
      connected = word r.is_connected;
      limit = long r.publication_limit;
      id = id_of (tail_of r k);
      offset = offset_of (tail_of r k);
      closed = r.is_closed;
      slowest = long r.slowest_position;
    }

-- the active partition, and the record read there
abbrev pub active : LogRecord → ℕ
active r = word r.active_term_count % 3

abbrev pub reading : LogRecord → Reading
reading r = reading_of r (active r)

-- the payload limit, the message limit, the greatest position
abbrev pub payload_limit : Reading → ℕ
payload_limit v = v.mtu - 32

abbrev pub message_limit : Reading → ℕ
message_limit v = min (v.term / 8) 16777216

abbrev pub greatest : Reading → ℕ
greatest v = v.term * 2147483648

-- the publisher's position: the offset cut to the term length
abbrev pub publisher_position : Reading → ℤ
publisher_position v = position_of v.id v.initial v.term (min v.offset v.term)

-- row 3: a position below zero shows above the greatest
abbrev pub good_position : Reading → ℕ → Bool
good_position v p = leb p (greatest v) && eqb (p % 32) 0

-- ---- row 2

-- The record's own ranges. An entry point hands the reading at the active partition, an appender the one at its own.
unfoldable pub sound_record : Reading → Bool
sound_record v =
    leb 65536 v.term && (leb v.term 1073741824 && (is_power_of_two v.term
    && (leb 64 v.mtu && (leb v.mtu 65504 && (eqb (v.mtu % 32) 0
    && (leb v.count 2147483647
    && (leb v.limit 4611686018427387904
    && (leb v.slowest (greatest v) && (eqb (v.slowest % 32) 0
    && (eqb (v.offset % 32) 0 && leb v.offset 2147483647))))))))))

-- and those of a lent log of n bytes: exactly three terms
unfoldable pub sound : Reading → ℕ → Bool
sound v n = sound_record v && eqb n (3 * v.term)

-- The same in words; `sound-true` and `sound-by` (proofs/Sound.antt) go from one to the other.
pub record Sound (v : Reading) (n : ℕ) : Type 0 where
  pub term-low : 65536 ≤ v.term
  pub term-high : v.term ≤ 1073741824
  pub one_bit : ones v.term ≡ 1
  pub mtu-low : 64 ≤ v.mtu
  pub mtu-high : v.mtu ≤ 65504
  pub mtu-32 : v.mtu % 32 ≡ 0
  pub count-high : v.count ≤ 2147483647
  pub limit-high : v.limit ≤ 4611686018427387904
  pub slowest-high : v.slowest ≤ greatest v
  pub slowest-32 : v.slowest % 32 ≡ 0
  pub offset-32 : v.offset % 32 ≡ 0
  pub offset-high : v.offset ≤ 2147483647
  pub three : n ≡ 3 * v.term

-- ---- row 1, where a range depends on the record: exact arithmetic on the number it holds, sound or not

-- n is at most the term length. A length below zero shows over 2147483647, and nothing is within it; so does an argument below zero,
-- and it is within no length.
abbrev pub within_term : ℕ → Reading → Bool
within_term n v = leb n v.term && leb v.term 2147483647

-- a partition, 0 to 2, and the place of a frame in it: a multiple of 32 from 0 to below the term length
abbrev pub good_partition : ℕ → Bool
good_partition k = leb k 2

abbrev pub good_offset : ℕ → Reading → Bool
good_offset at v = eqb (at % 32) 0 && within_term (at + 1) v

-- the place that a reader names: the record as it is read, and the partition and the offset without signs
abbrev pub place_of : LogRecord → ℤ → ℤ → Place
place_of r partition offset = record { read = reading r; partition = word partition; offset = word offset }

-- The rows with which the calls of readers, claims and the assembler begin, before their own: 1 for an illegal argument, then 2 for an
-- unsound record. Then 22 or 23, which this is, where the first frame is looked at and is unsound.
abbrev pub first_rows : Bool → Bool → Result ⊤ Error → Result ⊤ Error
first_rows good sound own = cond good (cond sound own (Err IllegalRecord)) (Err IllegalArgument)

abbrev pub frame_row : Bool → Error → Result ⊤ Error
frame_row unsound e = cond unsound (Err e) (Ok tt)

-- ---- the record, changed

-- all that calls change: tails, count, limit, closed
unfoldable pub changed : LogRecord → List ℤ → ℤ → ℤ → Bool → LogRecord
changed r tails count limit closed =
    record {
      tails = tails;
      active_term_count = count;
      initial_term_id = r.initial_term_id;
      term_length = r.term_length;
      mtu_length = r.mtu_length;
      session_id = r.session_id;
      stream_id = r.stream_id;
      is_connected = r.is_connected;
      publication_limit = limit;
      end_of_stream_position = r.end_of_stream_position;
      is_closed = closed;
      slowest_position = r.slowest_position;
      is_cleared = r.is_cleared;
      active_transport_count = r.active_transport_count;
      correlation_id = r.correlation_id;
      page_size = r.page_size;
    }

-- the tail of partition k at (id, offset)
unfoldable pub with_tail : LogRecord → ℕ → ℕ → ℕ → LogRecord
with_tail r k id offset = changed r (set r.tails k (raw_of id offset)) r.active_term_count r.publication_limit r.is_closed

unfoldable pub with_count : LogRecord → ℕ → LogRecord
with_count r n = changed r r.tails (to_z w32 n) r.publication_limit r.is_closed

unfoldable pub with_limit : LogRecord → ℤ → LogRecord
with_limit r n = changed r r.tails r.active_term_count n r.is_closed

unfoldable pub with_closed : LogRecord → LogRecord
with_closed r = changed r r.tails r.active_term_count r.publication_limit true

-- and the slowest reader's position and the marks of cleared partitions
unfoldable pub noted : LogRecord → ℤ → List Bool → LogRecord
noted r slowest marks =
    record {
      tails = r.tails;
      active_term_count = r.active_term_count;
      initial_term_id = r.initial_term_id;
      term_length = r.term_length;
      mtu_length = r.mtu_length;
      session_id = r.session_id;
      stream_id = r.stream_id;
      is_connected = r.is_connected;
      publication_limit = r.publication_limit;
      end_of_stream_position = r.end_of_stream_position;
      is_closed = r.is_closed;
      slowest_position = slowest;
      is_cleared = marks;
      active_transport_count = r.active_transport_count;
      correlation_id = r.correlation_id;
      page_size = r.page_size;
    }

unfoldable pub with_slowest : LogRecord → ℤ → LogRecord
with_slowest r p = noted r p r.is_cleared

unfoldable pub with_mark : LogRecord → ℕ → Bool → LogRecord
with_mark r k b = noted r r.slowest_position (set r.is_cleared k b)

-- ---- the partition due next

abbrev pub due : ℕ → ℕ
due count = (count + 1) % 3

abbrev pub is_marked : LogRecord → ℕ → Bool
is_marked r k = get_or r.is_cleared k false

-- it is marked as cleared
abbrev pub is_ready : LogRecord → Bool
is_ready r = is_marked r (due (word r.active_term_count))

-- ---- rotation

-- the next partition's tail becomes (id + 1, 0) if its id is id - 2; its mark goes in any case
unfoldable pub next_tail : LogRecord → ℕ → ℕ → LogRecord
next_tail r count id =
    with_mark (cond (eqb (id_plus (id_of (tail_of r ((count + 1) % 3))) 2) id) (with_tail r ((count + 1) % 3) (id_plus id 1) 0) r) (due count) false

-- as an offer or a claim rotates: the count rises by 1 in any case
unfoldable pub rotated : LogRecord → ℕ → ℕ → LogRecord
rotated r count id = with_count (next_tail r count id) (count + 1)

-- `rotate_log`, given a count and a term id, sets the count only if it is the one given, as the Rust does. In order: 1, 2, 12.
abbrev pub last_term : ℕ → Bool
last_term count = eqb count 2147483647

unfoldable pub rotate_verdict : Reading → ℕ → Result ⊤ Error
rotate_verdict v count =
    cond (ltb 2147483647 count) (Err IllegalArgument)
    (cond (sound_record v)
    (cond (last_term count) (Err LastTerm) (Ok tt))
    (Err IllegalRecord))

abbrev pub rotate_by : LogRecord → ℕ → ℕ → Result ⊤ Error → RecordReply
rotate_by r count id (Err e) = record { next = r; answer = Err e }
rotate_by r count id (Ok _) =
    record { next = cond (eqb (word r.active_term_count) count) (rotated r count id) (next_tail r count id); answer = Ok tt }

unfoldable pub rotate_log_of : LogRecord → ℤ → ℤ → RecordReply
rotate_log_of r count id = rotate_by r (word count) (word id) (rotate_verdict (reading r) (word count))
