pub mod InOrder
pub mod Levels
pub mod Refusals
pub mod Smaller
pub mod Twice
