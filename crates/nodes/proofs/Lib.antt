-- Laws for the crates above.
pub mod Digits
pub mod Climbing
pub mod Reaching
pub mod Adding
pub mod Walking
pub mod Unique
