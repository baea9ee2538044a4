-- Read these in this order.
pub mod Questions
