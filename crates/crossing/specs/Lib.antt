-- Read these in this order.
pub mod Wire
pub mod Crossing
pub mod Numbers
pub mod Boards
pub mod Lists
pub mod Papers
pub mod Values
pub mod Questions
pub mod Inner
