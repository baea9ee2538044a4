-- Laws for the crates above.
pub mod Slipping
pub mod Reading
pub mod Asking
pub mod Going
pub mod Sixth
pub mod Opened
pub mod Examples
