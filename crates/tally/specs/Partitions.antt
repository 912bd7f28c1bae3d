-- The tally in partition order: the parts of the stream that lie in partitions 0, 1, 2, each walked by itself, and four sums for each.
-- In order: 1, 2, 3, then 1 where the bytes between lie in more than three terms, 22 or 23. Read Theorems next.
use Rattle.std.specs.Prelude.{ℕ, ◌+◌, ◌*◌, ◌/◌, ◌%◌, min, max, Bool, cond, ◌&&◌, List, [], ◌∷◌, length, ℤ, pos, ◌==◌, nat_le, Result, Ok, Err, ⊤}
use Rattle.model.specs.declared.Error.{Error}
use Rattle.model.specs.declared.LogRecord.{LogRecord}
use Rattle.model.specs.declared.Error.TheVariants.{IllegalArgument}
use Rattle.model.specs.Answers.{Told, answered, refused}
use Rattle.model.specs.Bytes.{long}
use Rattle.model.specs.LogBufferDescriptor.{partition_of, reading}
use Rattle.tally.specs.declared.Sums.{Sums}
use Rattle.tally.specs.declared.Partitions.{Partitions}
use Rattle.tally.specs.declared.PartitionTallied.{PartitionTallied}
use Rattle.tally.specs.Walk.{Stream, stream_of, Passed, between, end_of, why}
use Rattle.tally.specs.Span.{span_rows, first_frame}
use Rattle.tally.specs.Tally.{sums_of, plus, stop_number, writing_size}

-- ---- the parts

-- where term t begins, or the nearer of the two positions if that does not lie between them
abbrev pub edge : ℕ → ℕ → ℕ → ℕ → ℕ
edge term from to t = min to (max from (t * term))

-- The term in partition k, of the three from the first position's on. By remainders of 3, to add twice a count is to take it away.
abbrev pub term_in : ℕ → ℕ → ℕ → ℕ
term_in term from k = from / term + (k + 2 * (from / term)) % 3

-- the frames of the part in term t, walked by itself, and whether that walk came to the part's end
unfoldable pub part : Stream → ℕ → ℕ → ℕ → List Passed
part s from to t = between s (edge s.term from to t) (edge s.term from to (t + 1))

unfoldable pub reaches : Stream → ℕ → ℕ → ℕ → Bool
reaches s from to t = end_of (edge s.term from to t) (part s from to t) == edge s.term from to (t + 1)

unfoldable pub all_reach : Stream → ℕ → ℕ → Bool
all_reach s from to =
    reaches s from to (term_in s.term from 0) && (reaches s from to (term_in s.term from 1) && reaches s from to (term_in s.term from 2))

-- ---- the sums of each partition

-- of its part
unfoldable pub by_parts : Stream → ℕ → ℕ → Partitions
by_parts s from to =
    record {
      p0 = sums_of (part s from to (term_in s.term from 0));
      p1 = sums_of (part s from to (term_in s.term from 1));
      p2 = sums_of (part s from to (term_in s.term from 2));
    }

-- of the frames that the walk in stream order passed there
unfoldable pub inside : ℕ → ℕ → List Passed → List Passed
inside term k [] = []
inside term k (f ∷ fs) = cond (partition_of f.at term == k) (f ∷ inside term k fs) (inside term k fs)

unfoldable pub by_stream : ℕ → List Passed → Partitions
by_stream term fs = record { p0 = sums_of (inside term 0 fs); p1 = sums_of (inside term 1 fs); p2 = sums_of (inside term 2 fs) }

-- The parts' own sums, and the second position, where each part reached its end; else those of the stream order.
unfoldable pub partitioned : Stream → ℕ → ℕ → Partitions
partitioned s from to = cond (all_reach s from to) (by_parts s from to) (by_stream s.term (between s from to))

unfoldable pub partitioned_end : Stream → ℕ → ℕ → ℕ
partitioned_end s from to = cond (all_reach s from to) to (end_of from (between s from to))

-- the partitions' sums, added up
abbrev pub all_of : Partitions → Sums
all_of x = plus (plus x.p0 x.p1) x.p2

-- ---- tally_by_partition: record, log, two positions

-- the bytes between lie in at most three terms
abbrev pub in_three : ℕ → ℕ → ℕ → Bool
in_three term from to = nat_le to ((from / term + 3) * term)

unfoldable pub partition_verdict : LogRecord → List ℕ → ℤ → ℤ → Result ⊤ Error
partition_verdict r log from to =
    span_rows r (length log) from to
    (cond (in_three (reading r).term (long from) (long to)) (first_frame (reading r).term log (long from) (long to)) (Err IllegalArgument))

-- each partition's sums, all of them, where the walk ended, and why
abbrev pub partitioned_by : Stream → ℕ → ℕ → Result ⊤ Error → Result PartitionTallied Error
partitioned_by s from to (Ok _) =
    Ok (record { partitions = partitioned s from to; sums = all_of (partitioned s from to); end = pos (partitioned_end s from to); stop = why s to (partitioned_end s from to) })
partitioned_by s from to (Err e) = Err e

unfoldable pub partition_tally_of : LogRecord → List ℕ → ℤ → ℤ → Result PartitionTallied Error
partition_tally_of r log from to = partitioned_by (stream_of r log) (long from) (long to) (partition_verdict r log from to)

-- ---- the numbers of an answer: as a tally's, the sums of partitions 0, 1, 2 behind the totals

abbrev pub partition_told : Result PartitionTallied Error → Told
partition_told (Ok tally) =
    answered (tally.end ∷ pos (stop_number tally.stop) ∷ pos (writing_size tally.stop)
    ∷ pos tally.sums.body ∷ pos tally.sums.headers ∷ pos tally.sums.slack ∷ pos tally.sums.padding
    ∷ pos tally.partitions.p0.body ∷ pos tally.partitions.p0.headers ∷ pos tally.partitions.p0.slack ∷ pos tally.partitions.p0.padding
    ∷ pos tally.partitions.p1.body ∷ pos tally.partitions.p1.headers ∷ pos tally.partitions.p1.slack ∷ pos tally.partitions.p1.padding
    ∷ pos tally.partitions.p2.body ∷ pos tally.partitions.p2.headers ∷ pos tally.partitions.p2.slack ∷ pos tally.partitions.p2.padding ∷ [])
partition_told (Err e) = refused e
