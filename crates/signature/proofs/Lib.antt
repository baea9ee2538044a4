-- Laws for the crates above. First FNV-1a, then the signature.
pub mod Digits
pub mod Product
pub mod Hashing
pub mod Examples
pub mod Columns
pub mod Homes
pub mod Joined
pub mod Fits
pub mod Renumbered
