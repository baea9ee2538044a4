-- Laws for the crates above.
pub mod Signs
pub mod Forming
pub mod Stopping
pub mod Checking
