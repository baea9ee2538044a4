-- Laws for the crates above.
pub mod Homing
pub mod Nexts
pub mod Blocking
pub mod Extremes
pub mod Renumbering
pub mod Bounds
pub mod Measured
