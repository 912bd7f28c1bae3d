-- Laws about runs, about cards laid over one another and about the walk; the theorems of specs/Theorems.antt, in Latest and Cutting; of specs/Histories.antt, in Histories;
-- worked cases.
pub mod Anchors
pub mod Padding
pub mod Same
pub mod Latest
pub mod Capped
pub mod Reading
pub mod Turning
pub mod Cutting
pub mod Histories
pub mod Answering
pub mod Cases
