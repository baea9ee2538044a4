-- Read these in this order.
pub mod Judged
pub mod Season
pub mod Calls
