-- Where a log's bytes went ("R-1" and "R-12" in document 02): the walk of the stream between two positions, the four sums over the frames that it passed,
-- and the same as the partitions lie.
-- Read Walk first, then Span, Tally, Partitions; Theorems has what is proved of them, as statements, and
-- Histories what a tally tells of a log that calls made.
pub mod Walk
pub mod Span
pub mod Tally
pub mod Partitions
pub mod Theorems
pub mod Histories
pub mod Within
