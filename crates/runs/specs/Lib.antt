-- Read these in this order.
pub mod Follows
pub mod Run
