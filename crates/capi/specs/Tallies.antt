-- A tally as it crosses to C: its values by their order (`tally_told`, `partition_told`), 0 where there are none. The position where the walk ended comes
-- first, and where a frame is refused its place stands there.
use Rattle.std.specs.Prelude.{ℕ, ◌+◌, Result}
use Rattle.model.specs.declared.Error.{Error}
use Rattle.tally.specs.Tally.{tally_told}
use Rattle.tally.specs.Partitions.{partition_told}
use Rattle.tally.specs.declared.Sums.{Sums}
use Rattle.tally.specs.declared.Partitions.{Partitions}
use Rattle.tally.specs.declared.Tallied.{Tallied}
use Rattle.tally.specs.declared.PartitionTallied.{PartitionTallied}
use Rattle.model.specs.Answers.{Told}
use Rattle.capi.specs.Replies.{value, size, value_or_place}
use Rattle.capi.specs.declared.tallies.TallyReply.{TallyReply}
use Rattle.capi.specs.declared.tallies.PartitionTallyReply.{PartitionTallyReply}

-- the four from an index on
abbrev pub sums_at : ℕ → Told → Sums
sums_at i t = record { body = size i t; headers = size (i + 1) t; slack = size (i + 2) t; padding = size (i + 3) t }

abbrev pub tally_reply : Result Tallied Error → TallyReply
tally_reply a =
    record {
      code = (tally_told a).number;
      stop = value 1 (tally_told a);
      position = value_or_place 0 (tally_told a);
      writing = size 2 (tally_told a);
      sums = sums_at 3 (tally_told a);
    }

-- the sums of each partition, behind their totals
abbrev pub partitions_at : Told → Partitions
partitions_at t = record { p0 = sums_at 7 t; p1 = sums_at 11 t; p2 = sums_at 15 t }

abbrev pub partition_tally_reply : Result PartitionTallied Error → PartitionTallyReply
partition_tally_reply a =
    record {
      code = (partition_told a).number;
      stop = value 1 (partition_told a);
      position = value_or_place 0 (partition_told a);
      writing = size 2 (partition_told a);
      sums = sums_at 3 (partition_told a);
      partitions = partitions_at (partition_told a);
    }
