-- Read these in this order.
pub mod Orders
pub mod Demand1
pub mod Fnv1a
pub mod Demand2
pub mod Demand3
pub mod HandsByNumber
pub mod WhyRefused
pub mod WrittenMoves
pub mod LinesOnPaper
pub mod BestLine
pub mod BadSheet
pub mod SeasonsFigures
