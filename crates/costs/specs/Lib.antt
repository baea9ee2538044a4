-- Read these in this order.
pub mod Entries
pub mod CostIn
pub mod Table
pub mod Promises
