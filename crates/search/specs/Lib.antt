-- Read these in this order.
pub mod Game
pub mod Solve
pub mod Freecell
pub mod Signed
pub mod Claims
pub mod Played
