-- Laws for the functions, and for the crates above.
pub mod Answers
pub mod Accepting
pub mod Judging
pub mod Leaving
pub mod Seasons
pub mod Unique
