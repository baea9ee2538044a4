-- Read these in this order.
pub mod Fit
pub mod Limit
pub mod Asked
pub mod Inner
