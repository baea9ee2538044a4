-- Read these in this order.
pub mod Season
pub mod Inner
