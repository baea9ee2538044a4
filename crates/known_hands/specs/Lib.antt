-- Read these in this order.
pub mod Boards
pub mod Hands
pub mod Answered
