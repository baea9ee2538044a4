-- Laws for the crates above.
pub mod Gathering
pub mod Writing
pub mod Places
pub mod Offering
pub mod Columns
pub mod Sizes
pub mod Few
pub mod Answering
pub mod Members
pub mod Unique
