-- Laws for the crates above.
pub mod Children
pub mod Marks
pub mod Roots
pub mod Needed
pub mod Births
pub mod Words
pub mod Starting
pub mod Giving
pub mod Going
pub mod Taking
pub mod Examples
