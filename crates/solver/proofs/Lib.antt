-- Laws of the inner functions.
pub mod Accepted
pub mod Judging
pub mod Accepting
pub mod Calls
pub mod Masters
pub mod Unique
