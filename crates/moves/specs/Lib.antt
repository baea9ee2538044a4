-- Read these in this order.
pub mod Move
pub mod Record
pub mod Play
pub mod Causes
pub mod Written
pub mod Inner
