pub mod Loops
pub mod Pairs
