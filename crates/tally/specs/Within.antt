-- What the functions inside this crate answer each other.
use Rattle.std.specs.Prelude.{ℕ, ◌-◌, ◌/◌, ◌%◌, ◌≤◌, Bool, cond, ◌&&◌, ◌||◌, nat_le}
use Rattle.model.specs.declared.Frame.{Frame}
use Rattle.model.specs.declared.Frame.TheVariants.{Absent}
use Rattle.model.specs.FrameDescriptor.{is_unsound}
use Rattle.tally.specs.declared.step.Met.{Met}
use Rattle.tally.specs.declared.step.Spot.{Spot}
use Rattle.tally.specs.declared.walk.Walked.{Walked}
use Rattle.tally.specs.declared.partition.Part.{Part}
use Rattle.tally.specs.declared.partition.Parts.{Parts}
use Rattle.tally.specs.declared.partition.Parted.{Parted}
use Rattle.tally.specs.Walk.{Stream, place_at, size, between, end_of}
use Rattle.tally.specs.Tally.{sums_of}
use Rattle.tally.specs.Partitions.{term_in, part, reaches, all_reach, by_parts, partitioned, partitioned_end}

-- where a position lies: its term's count, its offset there, its index in the log, and the bytes to its term's end
abbrev pub spot_of : ℕ → ℕ → Spot
spot_of term p = record { count = p / term; offset = p % term; index = place_at term p; room = term - p % term }

-- what is met of a frame that is seen, by whether it has its own id and by the bytes left to the walk's end
abbrev pub kept_by : Frame → Bool → ℕ → Frame
kept_by x own left = cond (is_unsound x || (own && nat_le (size x) left)) x Absent

abbrev pub met_by : Frame → Bool → ℕ → Met
met_by x own left = record { frame = kept_by x own left; size = size (kept_by x own left) }

-- a walk by its numbers
abbrev pub walk_of : Stream → ℕ → ℕ → Walked
walk_of s from to = record { sums = sums_of (between s from to); end = end_of from (between s from to) }

-- two positions in order, of any log
abbrev pub Ordered : ℕ → ℕ → Type 0
Ordered from to = (from ≤ to) × (to ≤ 2305843009213693952)

-- the part in partition k, all three, and the answer of them
abbrev pub part_of : Stream → ℕ → ℕ → ℕ → Part
part_of s from to k = record { sums = sums_of (part s from to (term_in s.term from k)); whole = reaches s from to (term_in s.term from k) }

abbrev pub parts_of : Stream → ℕ → ℕ → Parts
parts_of s from to = record { sums = by_parts s from to; whole = all_reach s from to }

abbrev pub parted_of : Stream → ℕ → ℕ → Parted
parted_of s from to = record { sums = partitioned s from to; end = partitioned_end s from to }
