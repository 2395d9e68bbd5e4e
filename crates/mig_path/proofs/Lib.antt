pub mod Sequences
pub mod Records
pub mod Over
pub mod Again
pub mod Frames
pub mod Changes
