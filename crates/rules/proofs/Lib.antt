-- Laws for the crates above.
pub mod Laying
pub mod Lengths
pub mod Examples
