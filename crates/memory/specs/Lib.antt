-- Read these in this order.
pub mod Memory
pub mod View
pub mod Machine
pub mod Steps
