pub mod Constants
pub mod Templates
