-- Laws about a step, the walk and its sums, its parts, and the rows; the theorems of specs/Theorems.antt, in Adding, Parting and Ordering; of specs/Histories.antt, in Histories;
-- worked cases.
pub mod Steps
pub mod Spots
pub mod Adding
pub mod Turning
pub mod Splitting
pub mod Parting
pub mod Spans
pub mod Reasons
pub mod Answering
pub mod Ordering
pub mod Boundaries
pub mod Histories
pub mod Cases
