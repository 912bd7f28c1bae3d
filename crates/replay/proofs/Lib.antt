-- Laws that the functions' proofs share.
pub mod Turns
pub mod InPlace
pub mod Gather
pub mod Fragments
pub mod Batching
pub mod Inside
pub mod Again
pub mod Counting
pub mod Walks
pub mod Taken
pub mod History
