-- Laws for the crates above.
pub mod Totals
pub mod Asking
