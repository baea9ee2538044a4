-- Laws for the functions and the search above.
pub mod Reading
pub mod Hoping
pub mod Choices
pub mod Births
pub mod Growth
pub mod Expanding
