-- Laws for the crates above.
pub mod Lengths
pub mod Looking
pub mod Writing
pub mod Telling
pub mod Unique
