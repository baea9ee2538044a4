-- Read these in this order.
pub mod Said
pub mod Inner
