-- The metadata section of a log ("R-11" in document 02): its bytes, what the two calls answer and leave, and the theorems about them as statements;
-- proofs/ has the proofs. Read Metadata first, then Calls.
pub mod Metadata
pub mod Calls
pub mod Theorems
