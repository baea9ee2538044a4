-- Laws for the crates above.
pub mod Keys
pub mod Signs
pub mod Digits
pub mod Answering
pub mod Examples
pub mod Unique
pub mod Winning
