-- Laws. Read these in this order.
pub mod Opened
pub mod Definition
pub mod Examples
pub mod Beginning
pub mod Numbers
pub mod Kept
pub mod Lines
pub mod Later
pub mod Masters
pub mod Pops
pub mod Room
pub mod Striking
pub mod Finishing
pub mod OneRun
pub mod Signed
pub mod Ruled
pub mod Judge
