-- Laws that the functions' proofs share.
pub mod ClaimLaws
pub mod ClearLaws
pub mod OfferBy
pub mod Fits
pub mod Lengths
pub mod Numbers
pub mod OpenLaws
pub mod Ways
