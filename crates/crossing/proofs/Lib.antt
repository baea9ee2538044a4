-- Laws for the functions here and for those that C calls.
pub mod Wiring
pub mod Crossing
pub mod Handing
pub mod Listing
pub mod Papering
pub mod Tops
pub mod Telling
pub mod Returning
pub mod Examples
pub mod Unique
