-- Laws for the crates above.
pub mod Ranking
pub mod Emitting
pub mod Ordering
