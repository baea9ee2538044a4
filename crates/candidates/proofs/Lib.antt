-- Laws for the crates above.
pub mod Trying
pub mod Bearing
pub mod Listing
pub mod Picking
pub mod Worth
pub mod Adding
pub mod Unique
