-- Read these in this order.
pub mod Found
pub mod Asked
pub mod Inner
