-- Laws of the functions.
pub mod Seeding
pub mod Turning
pub mod Taken
pub mod Going
