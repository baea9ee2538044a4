pub mod Parts
pub mod Walking
pub mod Imaging
pub mod Dealing
pub mod Accepted
pub mod Numbers
