-- Laws for the crates above.
pub mod Records
pub mod Writing
pub mod Saying
pub mod Keeping
pub mod Allowing
pub mod Fairness
pub mod Totals
pub mod Deciding
pub mod Ruling
pub mod Examples
pub mod Unique
