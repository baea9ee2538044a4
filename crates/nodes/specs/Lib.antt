-- Read these in this order.
pub mod Step
pub mod Line
pub mod Nodes
pub mod Path
