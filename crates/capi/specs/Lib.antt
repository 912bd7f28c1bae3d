-- How what C keeps lies in words, what is proved of that, and how each answer crosses to C.
pub mod Words
pub mod Replies
pub mod Theorems
pub mod Cards
pub mod Tallies
pub mod Holdings
pub mod Sections
