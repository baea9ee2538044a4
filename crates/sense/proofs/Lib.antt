-- Laws for the crates above.
pub mod Meaning
pub mod Well
pub mod Finding
pub mod Noting
pub mod Unique
