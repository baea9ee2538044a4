-- Laws for the functions.
pub mod Lying
