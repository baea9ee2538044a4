-- Read these in this order.
pub mod Meant
pub mod Outcome
pub mod Inner
