-- Read these in this order.
pub mod Candidates
pub mod Children
pub mod Inner
