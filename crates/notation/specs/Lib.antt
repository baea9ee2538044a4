-- Read these in this order.
pub mod Jot
pub mod Form
pub mod Inner
