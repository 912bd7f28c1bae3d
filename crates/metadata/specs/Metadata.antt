-- The 320 bytes of the Rust's `LogMetaDataDefn`, with 64 for the cache line. Numbers are little-endian; every byte that no field has is 0.
-- Read Calls next.
--
--      at   bytes   field
--       0      24   the tails of partitions 0, 1, 2
--      24       4   active term count
--      28     100   0
--     128       8   end of stream position
--     136       4   is connected
--     140       4   active transport count
--     144     112   0
--     256       8   correlation id
--     264       4   initial term id
--     268       4   default frame header length: 32
--     272       4   mtu length
--     276       4   term length
--     280       4   page size
--     284      36   0
--     320
use Rattle.std.specs.Prelude.{◌≡◌, ℕ, zero, suc, ◌+◌, ◌≤◌, ◌<◌, Bool, true, ◌&&◌, List, [], ◌∷◌, ◌++◌, eqb, ℤ, length, drop, get_or}
use Rattle.model.specs.declared.LogRecord.{LogRecord}
use Rattle.model.specs.Bytes.{le4, le8, u32, i32, i64, word, long, zeros}
use Rattle.model.specs.LogBufferDescriptor.{tail_of}
use Rattle.metadata.specs.declared.Beside.{Beside}

-- the length of the header of a frame
abbrev pub header_length : ℕ
header_length = 32

-- ---- the section of a record, in four parts

-- bytes 0 to 127
unfoldable pub counters : LogRecord → List ℕ
counters r =
    le8 (long (tail_of r 0)) ++ (le8 (long (tail_of r 1)) ++ (le8 (long (tail_of r 2)) ++ (le4 (word r.active_term_count) ++ zeros 100)))

-- bytes 128 to 255
unfoldable pub connection : LogRecord → List ℕ
connection r =
    le8 (long r.end_of_stream_position) ++ (le4 (word r.is_connected) ++ (le4 (word r.active_transport_count) ++ zeros 112))

-- bytes 256 to 271
unfoldable pub ids : LogRecord → List ℕ
ids r = le8 (long r.correlation_id) ++ (le4 (word r.initial_term_id) ++ le4 header_length)

-- bytes 272 to 319
unfoldable pub lengths : LogRecord → List ℕ
lengths r = le4 (word r.mtu_length) ++ (le4 (word r.term_length) ++ (le4 (word r.page_size) ++ zeros 36))

unfoldable pub section : LogRecord → List ℕ
section r = counters r ++ (connection r ++ (ids r ++ lengths r))

-- ---- the record of a section

unfoldable pub tails_from : List ℕ → List ℤ
tails_from s = i64 (drop 0 s) ∷ i64 (drop 8 s) ∷ i64 (drop 16 s) ∷ []

-- with what is given beside it
unfoldable pub record_from : List ℕ → Beside → LogRecord
record_from s b =
    record {
      tails = tails_from s;
      active_term_count = i32 (drop 24 s);
      initial_term_id = i32 (drop 264 s);
      term_length = i32 (drop 276 s);
      mtu_length = i32 (drop 272 s);
      session_id = b.session_id;
      stream_id = b.stream_id;
      is_connected = i32 (drop 136 s);
      publication_limit = b.publication_limit;
      end_of_stream_position = i64 (drop 128 s);
      is_closed = b.is_closed;
      slowest_position = b.slowest_position;
      is_cleared = b.is_cleared;
      active_transport_count = i32 (drop 140 s);
      correlation_id = i64 (drop 256 s);
      page_size = i32 (drop 280 s);
    }

-- what a record has to give beside its section
unfoldable pub beside_of : LogRecord → Beside
beside_of r =
    record {
      session_id = r.session_id;
      stream_id = r.stream_id;
      publication_limit = r.publication_limit;
      is_closed = r.is_closed;
      slowest_position = r.slowest_position;
      is_cleared = r.is_cleared;
    }

-- ---- bytes that are a section

-- n bytes from an index on are 0
unfoldable pub zero_from : ℕ → List ℕ → ℕ → Bool
zero_from zero s at = true
zero_from (suc n) s at = eqb (get_or s at 0) 0 && zero_from n s (at + 1)

unfoldable pub accepted : List ℕ → Bool
accepted s =
    eqb (length s) 320 && (zero_from 100 s 28 && (zero_from 112 s 144 && (zero_from 36 s 284 && eqb (u32 (drop 268 s)) header_length)))

-- The same in words: the size, the gaps byte by byte, the header length (Acceptance, `accepted-exactly`).
pub record Section (s : List ℕ) : Type 0 where
  pub size : length s ≡ 320
  pub gap-1 : (i : ℕ) → 28 ≤ i → i < 128 → get_or s i 0 ≡ 0
  pub gap-2 : (i : ℕ) → 144 ≤ i → i < 256 → get_or s i 0 ≡ 0
  pub gap-3 : (i : ℕ) → 284 ≤ i → i < 320 → get_or s i 0 ≡ 0
  pub header : u32 (drop 268 s) ≡ header_length
