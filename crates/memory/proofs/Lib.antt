-- Laws for the crates above. Read these in this order.
pub mod Within
pub mod Children
pub mod Queueing
pub mod Writing
pub mod Bearing
pub mod Starting
pub mod Taking
pub mod Visiting
pub mod Growing
pub mod Running
