-- Laws for the functions and the search above.
pub mod Handing
