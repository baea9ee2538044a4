-- Read these in this order.
pub mod Step
pub mod Line
pub mod Handed
pub mod Played
