-- Read these in this order.
pub mod Image
pub mod Deal
pub mod Number
pub mod Inside
