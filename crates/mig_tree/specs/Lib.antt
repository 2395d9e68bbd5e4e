pub mod Text
pub mod View
pub mod Falls
pub mod Spelling
pub mod Place
