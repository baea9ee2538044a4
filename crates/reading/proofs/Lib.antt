-- Laws for the crates above.
pub mod Giving
pub mod Taking
pub mod Cutting
pub mod Passing
pub mod Handing
pub mod Unique
