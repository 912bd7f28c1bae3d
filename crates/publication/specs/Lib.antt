-- Definitions that the contracts of functions inside the crate cite; those of the calls are in `model`.
pub mod Fits
pub mod Numbers
pub mod Trips
