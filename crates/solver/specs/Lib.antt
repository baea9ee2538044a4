-- Read these in this order.
pub mod Capacity
pub mod Searched
pub mod Inner
pub mod Told
