-- The claim, and what it says of the code.
pub mod Known
pub mod Coded
