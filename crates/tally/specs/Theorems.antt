-- What is proved of the definitions, as statements, for every log, sound or not, and any two positions. proofs/ has a proof of each, under the name that
-- is said with it.
use Rattle.std.specs.Prelude.{◌≡◌, ℕ, ◌+◌, ◌≤◌, true, List, ℤ, FitsSigned, Result, Ok, Err}
use Rattle.model.specs.declared.Error.{Error}
use Rattle.std.specs.Int.{w64}
use Rattle.model.specs.declared.LogRecord.{LogRecord}
use Rattle.model.specs.Bytes.{long}
use Rattle.model.specs.LogBufferDescriptor.{reading}
use Rattle.tally.specs.declared.Tallied.{Tallied}
use Rattle.tally.specs.declared.PartitionTallied.{PartitionTallied}
use Rattle.tally.specs.Walk.{Stream, size, met, between, end_of}
use Rattle.tally.specs.Tally.{sums_of, total, tally_of}
use Rattle.tally.specs.Partitions.{by_stream, in_three, partitioned, partition_tally_of}

-- The four sums are the distance walked (Adding, `adds-up`).
abbrev pub AddsUp : Type 0
AddsUp = (s : Stream) (from to : ℕ) → from + total (sums_of (between s from to)) ≡ end_of from (between s from to)

-- A walk ends at the second position or before it, and only where nothing is left to pass (Adding, `ends_there`).
abbrev pub EndsThere : Type 0
EndsThere = (s : Stream) (from to : ℕ) → from ≤ to
    → (end_of from (between s from to) ≤ to) × (size (met s to (end_of from (between s from to))) ≡ 0)

-- ---- in partition order, for every starting term, the bytes between in at most three

-- Each partition's sums are those of the frames that the stream order passed there, whether each part reached its end or one stopped short (Parting,
-- `each-in-stream`).
abbrev pub EachInStream : Type 0
EachInStream = (s : Stream) (from to : ℕ) → from ≤ to → in_three s.term from to ≡ true
    → partitioned s from to ≡ by_stream s.term (between s from to)

-- without its partitions
abbrev pub whole : Result PartitionTallied Error → Result Tallied Error
whole (Ok tally) = Ok (record { sums = tally.sums; end = tally.end; stop = tally.stop })
whole (Err e) = Err e

-- The answer, but for its partitions, is the tally's: all four totals, where the walk ended and why, and the refusals (Ordering, `stream-order`). The positions
-- are any numbers of 64 bits.
abbrev pub StreamOrder : Type 0
StreamOrder = (r : LogRecord) (log : List ℕ) (from to : ℤ) → FitsSigned w64 from → FitsSigned w64 to → in_three (reading r).term (long from) (long to) ≡ true
    → whole (partition_tally_of r log from to) ≡ tally_of r log from to
