-- Laws for the crates above: Bags, Order, Arranged and Packed are for callers, the others for the functions.
pub mod Bags
pub mod Order
pub mod Holes
pub mod Climbing
pub mod Sinking
pub mod Taking
pub mod Arranged
pub mod Packed
