-- Laws for the crates above.
pub mod Sizes
pub mod After
pub mod Asking
