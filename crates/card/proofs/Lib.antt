-- Laws for the crates above.
pub mod Codes
pub mod Unique
