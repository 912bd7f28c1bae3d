-- For a caller who has read the record's numbers: these with a raw tail that he has, and a read of a partition to its term's end; and the refusal of such a read.
use Rattle.std.specs.Prelude.{ℕ, ◌*◌, ◌/◌, ◌%◌, Bool, cond, ◌&&◌, List, length, ℤ, ◌==◌, Result, Ok, Err, ⊤}
use Rattle.model.specs.declared.LogRecord.{LogRecord}
use Rattle.model.specs.declared.Reading.{Reading}
use Rattle.model.specs.declared.Error.{Error}
use Rattle.model.specs.declared.Error.TheVariants.{IllegalArgument}
use Rattle.model.specs.declared.TermRead.{TermRead}
use Rattle.model.specs.Bytes.{word, long}
use Rattle.model.specs.FrameDescriptor.{unsound_frame_at}
use Rattle.model.specs.LogBufferDescriptor.{id_bits, sound, good_partition, frame_row}
use Rattle.model.specs.TermReader.{good_entries, first_unsound}

-- the record's numbers with the bits of a raw tail
abbrev pub reading_by : LogRecord → ℕ → Reading
reading_by r bits =
    record {
      term = word r.term_length;
      mtu = word r.mtu_length;
      count = word r.active_term_count;
      initial = id_bits (word r.initial_term_id);
      session = word r.session_id;
      stream = word r.stream_id;
      connected = word r.is_connected;
      limit = long r.publication_limit;
      id = id_bits (bits / 4294967296);
      offset = bits % 4294967296;
      closed = r.is_closed;
      slowest = long r.slowest_position;
    }

-- `reading_of` with that tail; `reading-with` (proofs/RawTails.antt) is the law that at a partition's own tail it is the reading there
unfoldable pub reading_with : LogRecord → ℤ → Reading
reading_with r raw = reading_by r (long raw)

-- sound numbers, a partition, an offset that is a multiple of 32, room for the entries
abbrev pub good_read_on : Reading → ℕ → ℕ → ℕ → ℕ → ℕ → Bool
good_read_on v n k at limit slots = sound v n && (good_partition k && (at % 32 == 0 && good_entries slots limit))

-- else 1; and 22 or 23, as every read has it
unfoldable pub read_on_verdict : Reading → List ℕ → ℕ → ℕ → ℕ → ℕ → Result ⊤ Error
read_on_verdict v log k at limit slots =
    cond (good_read_on v (length log) k at limit slots)
    (frame_row (first_unsound log (k * v.term) v.term v.term at limit) (unsound_frame_at log (k * v.term) at))
    (Err IllegalArgument)

-- a read that was not refused has no refusal, and 1 stands for it
abbrev pub read_refusal : Result TermRead Error → Error
read_refusal (Ok read) = IllegalArgument
read_refusal (Err e) = e
