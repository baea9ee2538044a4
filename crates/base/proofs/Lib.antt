-- Laws for the crates above.
pub mod Words
pub mod Sums
pub mod Filling
pub mod Answers
pub mod Unique
pub mod Placed
pub mod Rises
pub mod Counted
pub mod Placing
pub mod Sorting
pub mod Clearing
pub mod Putting
pub mod Lists
