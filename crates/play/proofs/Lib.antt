-- Laws for the crates above.
pub mod Changing
pub mod Playing
pub mod Tops
pub mod Landing
pub mod Running
pub mod Single
pub mod Unique
