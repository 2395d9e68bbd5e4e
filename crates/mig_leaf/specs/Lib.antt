pub mod Spelling
pub mod View
