-- Read these in this order.
pub mod Way
pub mod Counted
pub mod Places
