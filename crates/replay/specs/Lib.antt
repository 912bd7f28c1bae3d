-- What the code's values mean in the definitions.
pub mod InPlace
pub mod Replays
pub mod Gather
pub mod Batches
pub mod Again
pub mod History
