-- Laws for the crates above.
pub mod Stepping
pub mod Lining
pub mod Replaying
pub mod Causes
pub mod Keeping
pub mod Legal
pub mod Unique
