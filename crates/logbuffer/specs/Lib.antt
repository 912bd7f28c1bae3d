-- What the contracts here say beyond the definitions of `model`.
pub mod Lent
pub mod Assembler
pub mod Ways
pub mod Reads
pub mod Whole
pub mod Commits
pub mod Fragments
