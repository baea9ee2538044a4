-- Read these in this order.
pub mod Table
pub mod Verdict
pub mod Record
pub mod Fair
pub mod Renumbered
pub mod Refusal
pub mod Inner
