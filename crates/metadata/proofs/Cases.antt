-- Worked cases: the section of an opened log, byte by byte; the refusals by their numbers, and their order.
use mathlib.Core.Path.{◌≡◌, refl}
use Prim.Native.Nat.{ℕ, ◌<◌}
use mathlib.Core.List.{List, [], ◌∷◌, ◌++◌}
use borrow.Author.Tests.{lt-leb}
use lib.Count.{ones, ones_in}
use lib.ListN.{length, take, set}
use lib.IntN.{ℤ, pos}
use Rattle.model.specs.declared.LogRecord.{LogRecord}
use Rattle.model.specs.Bytes.{le4, le8, u32, u64, zeros}
use Rattle.model.specs.LogBufferDescriptor.{raw_of, reading_of, sound_record}
use Rattle.model.specs.Publication.{opened_record, no_record}
use Rattle.metadata.specs.declared.Beside.{Beside}
use Rattle.metadata.specs.Metadata.{counters, connection, ids, lengths, section, tails_from, record_from, beside_of, zero_from, accepted}
use Rattle.metadata.specs.Calls.{answer_number, write_of, read_of}

-- term length 65536, mtu 1408, initial id 7
opened : LogRecord
opened = opened_record (pos 65536) (pos 1408) (pos 7) (pos 5) (pos 6)

-- tails at ids 7, 5 and 6, count 0; the end of the stream not told, connected, no transports; correlation id 0, initial id 7, header length 32,
-- mtu 1408, term length 65536, page size 0
opened-bytes : List ℕ
opened-bytes =
    (0 ∷ 0 ∷ 0 ∷ 0 ∷ 7 ∷ 0 ∷ 0 ∷ 0 ∷ 0 ∷ 0 ∷ 0 ∷ 0 ∷ 5 ∷ 0 ∷ 0 ∷ 0 ∷ 0 ∷ 0 ∷ 0 ∷ 0 ∷ 6 ∷ 0 ∷ 0 ∷ 0 ∷ 0 ∷ 0 ∷ 0 ∷ 0 ∷ [])
    ++ (zeros 100
    ++ ((255 ∷ 255 ∷ 255 ∷ 255 ∷ 255 ∷ 255 ∷ 255 ∷ 127 ∷ 1 ∷ 0 ∷ 0 ∷ 0 ∷ 0 ∷ 0 ∷ 0 ∷ 0 ∷ [])
    ++ (zeros 112
    ++ ((0 ∷ 0 ∷ 0 ∷ 0 ∷ 0 ∷ 0 ∷ 0 ∷ 0 ∷ 7 ∷ 0 ∷ 0 ∷ 0 ∷ 32 ∷ 0 ∷ 0 ∷ 0 ∷ 128 ∷ 5 ∷ 0 ∷ 0 ∷ 0 ∷ 0 ∷ 1 ∷ 0 ∷ 0 ∷ 0 ∷ 0 ∷ 0 ∷ []) ++ zeros 36))))

opened-section : section opened ≡ opened-bytes
unfolding opened opened-bytes opened_record raw_of section counters connection ids lengths le8 le4 zeros
opened-section = refl

abbrev answered : List ℕ → ℤ
answered s = answer_number (read_of s (beside_of opened)).answer

read_back : answered opened-bytes ≡ pos 0
unfolding opened opened-bytes opened_record raw_of zeros read_of accepted zero_from u32 u64 record_from tails_from beside_of reading_of sound_record ones ones_in
read_back = refl

-- a byte less, a byte more, a byte of the first gap, one of the last, another header length
refused : (answered (take 319 opened-bytes) ≡ pos 25) × ((answered (opened-bytes ++ (0 ∷ [])) ≡ pos 25) × ((answered (set opened-bytes 28 1) ≡ pos 25)
    × ((answered (set opened-bytes 300 1) ≡ pos 25) × (answered (set opened-bytes 268 33) ≡ pos 25))))
unfolding opened-bytes zeros read_of accepted zero_from u32
refused = (refl, (refl, (refl, (refl, refl))))

-- an output of another size
refused-output : (answer_number (write_of opened 319) ≡ pos 25) × (answer_number (write_of opened 321) ≡ pos 25)
unfolding write_of
refused-output = (refl, refl)

-- a record of zeros is refused with 2, but where its section is none with 25, and where a slice is too long with 1
order : (answer_number (write_of no_record 320) ≡ pos 2) × ((answer_number (write_of no_record 319) ≡ pos 25) × (answer_number (write_of no_record 2147483648) ≡ pos 1))
unfolding no_record write_of reading_of sound_record
order = (refl, (refl, refl))

read-order : (answer_number (read_of (section no_record) (beside_of no_record)).answer ≡ pos 2) × (answer_number (read_of (set (section no_record) 28 1) (beside_of no_record)).answer ≡ pos 25)
unfolding no_record section counters connection ids lengths le8 le4 zeros read_of accepted zero_from u32 u64 record_from tails_from beside_of reading_of sound_record
read-order = (refl, refl)

too_long : (s : List ℕ) (b : Beside) → 2147483647 < length s → answer_number (read_of s b).answer ≡ pos 1
unfolding read_of
too_long s b h = rw (lt-leb (length s) 2147483647 h)
