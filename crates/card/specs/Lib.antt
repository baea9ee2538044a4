-- Read these in this order.
pub mod Suit
pub mod Card
pub mod Pack
