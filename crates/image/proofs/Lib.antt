-- Laws that the functions' proofs share.
pub mod Rungs
pub mod Places
pub mod Polls
pub mod Bounds
pub mod Settings
pub mod Blocks
pub mod Peeks
pub mod Replies
