-- Finished terms on the shelf ("R-13" in document 02): what a filled term is, how its bytes are laid out anew and taken back, what the two calls
-- answer and leave, and the theorems about them as statements; proofs/ has the proofs. Read Shelf first, then Calls.
pub mod Shelf
pub mod Scatter
pub mod Calls
pub mod Theorems
