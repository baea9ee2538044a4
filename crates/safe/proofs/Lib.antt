-- Laws for the crates above.
pub mod Needing
pub mod Places
pub mod Judging
pub mod Choosing
pub mod Passing
pub mod Safety
pub mod Chaining
pub mod Handing
pub mod Replays
pub mod Examples
pub mod Unique
