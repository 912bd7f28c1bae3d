-- What the contracts here say beyond the definitions of `model`.
pub mod Images
