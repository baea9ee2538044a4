-- Laws for the functions.
pub mod Along
pub mod Lining
pub mod Gaining
pub mod Telling
pub mod Unique
