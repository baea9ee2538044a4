-- Read these in this order.
pub mod Text
pub mod Told
pub mod Inner
