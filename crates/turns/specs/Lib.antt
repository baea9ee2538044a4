-- What the search asks of its turns.
pub mod Inner
