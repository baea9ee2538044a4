-- Read these in this order.
pub mod Safe
pub mod Chain
pub mod Asked
pub mod Inner
