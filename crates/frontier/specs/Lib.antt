-- Read these in this order.
pub mod Heap
pub mod Inner
pub mod Packing
