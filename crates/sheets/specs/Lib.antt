-- Read these in this order.
pub mod Figures
pub mod Over
pub mod Good
pub mod Adding
pub mod Noted
pub mod Promises
