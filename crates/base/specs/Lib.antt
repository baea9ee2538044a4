-- Read these in this order.
pub mod Words
pub mod Answer
pub mod Rising
pub mod Blank
pub mod Put
