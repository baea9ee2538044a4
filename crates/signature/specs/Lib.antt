-- Read these in this order.
pub mod Fnv
pub mod Signed
