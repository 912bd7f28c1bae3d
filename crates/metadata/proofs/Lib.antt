-- Worked cases; laws about fields, gaps, parts and answers; the theorems of specs/Theorems.antt, in Acceptance and RoundTrips.
pub mod Cases
pub mod Fields
pub mod Gaps
pub mod Parts
pub mod Answers
pub mod Acceptance
pub mod RoundTrips
