-- Read these in this order.
pub mod Weights
pub mod Scores
pub mod Token
pub mod Asked
