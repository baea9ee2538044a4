-- Drawing for the function, Whole for the crates above: the deck of every number is the whole pack. Examples: published hands.
pub mod Drawing
pub mod Whole
pub mod Examples
