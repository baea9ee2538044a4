-- Read these in this order.
pub mod Priority
pub mod Asked
