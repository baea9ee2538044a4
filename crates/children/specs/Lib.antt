-- What is asked inside the search.
pub mod Inner
