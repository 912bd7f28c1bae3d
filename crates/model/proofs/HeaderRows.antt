-- The rows of a header's call, and of the frame length reader's, at the place that their code reads.
use Rattle.std.specs.Prelude.{Ok}
use mathlib.Core.Path.{◌≡◌, ap}
use mathlib.Core.Bool.{◌&&◌}
use mathlib.Core.List.{List}
use Prim.Native.Nat.{ℕ, ◌+◌, ◌*◌}
use lib.ListN.{length, drop}
use lib.IntN.{ℤ}
use Rattle.model.specs.declared.LogRecord.{LogRecord}
use Rattle.model.specs.declared.Place.{Place}
use Rattle.model.specs.DataFrameHeader.{header_at}
use Rattle.model.specs.FrameDescriptor.{length_at}
use Rattle.model.specs.LogBufferDescriptor.{sound, good_partition, good_offset, place_of, first_rows}
use Rattle.model.specs.TermReader.{fields_of, header_verdict, header_by, header_call, length_by, length_call}

-- rows 1 and 2 are all that a header's call has
pub header-by : (r : LogRecord) (log : List ℕ) (partition offset : ℤ) (p : Place) → p ≡ place_of r partition offset
    → header_by (fields_of p.read p.offset (header_at (drop (p.partition * p.read.term + p.offset) log)))
    (first_rows (good_partition p.partition && good_offset p.offset p.read) (sound p.read (length log)) (Ok tt)) ≡ header_call r log partition offset
unfolding header_call header_verdict
header-by r log partition offset p e =
    ap
    (λ (x : Place). header_by (fields_of x.read x.offset (header_at (drop (x.partition * x.read.term + x.offset) log))) (first_rows (good_partition x.partition && good_offset x.offset x.read) (sound x.read (length log)) (Ok tt)))
    e

-- and all that a frame length reader's has
pub length-by : (r : LogRecord) (log : List ℕ) (partition offset : ℤ) (p : Place) → p ≡ place_of r partition offset
    → length_by (length_at (drop (p.partition * p.read.term + p.offset) log))
    (first_rows (good_partition p.partition && good_offset p.offset p.read) (sound p.read (length log)) (Ok tt)) ≡ length_call r log partition offset
unfolding length_call header_verdict
length-by r log partition offset p e =
    ap
    (λ (x : Place). length_by (length_at (drop (x.partition * x.read.term + x.offset) log)) (first_rows (good_partition x.partition && good_offset x.offset x.read) (sound x.read (length log)) (Ok tt)))
    e
