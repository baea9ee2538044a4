-- The published shuffle.
pub mod Shuffle
