pub mod Views
pub mod Thens
