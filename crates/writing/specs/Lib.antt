-- Read these in this order.
pub mod Lines
pub mod Asked
pub mod Inner
