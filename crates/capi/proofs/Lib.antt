-- The laws that the functions' proofs share, and the theorems of specs/Theorems.antt.
pub mod Promised
pub mod Halves
pub mod Kept
pub mod Fitted
pub mod Passed
pub mod Steps
pub mod Narrow
pub mod Partitions
pub mod Apart
