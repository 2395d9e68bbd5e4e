pub mod Held
pub mod Told
pub mod Numbered
pub mod Entries
