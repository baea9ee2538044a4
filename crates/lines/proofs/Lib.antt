-- Laws for the crates above.
pub mod Telling
pub mod Unique
