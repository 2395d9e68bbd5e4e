pub mod Types
pub mod Code
pub mod Fault
pub mod Check
pub mod Reach
pub mod Version
