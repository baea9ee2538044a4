-- What is to be believed.
pub mod Items
