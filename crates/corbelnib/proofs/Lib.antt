-- Laws for the functions.
pub mod Judging
pub mod Seasoning
pub mod Calls
