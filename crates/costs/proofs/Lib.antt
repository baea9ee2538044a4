-- Laws for the crates above.
pub mod Entries
pub mod Meaning
pub mod Ways
pub mod Scanning
pub mod Finding
pub mod Storing
pub mod Slots
pub mod Counting
pub mod Unique
pub mod Examples
