-- Laws for the crates above.
pub mod Bits
pub mod Marks
pub mod Tables
pub mod Verdicts
pub mod Soundness
pub mod Counting
pub mod Records
pub mod Fitting
pub mod Fair
pub mod Renumbering
pub mod Unique
