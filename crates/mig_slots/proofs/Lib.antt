pub mod Changes
pub mod SearchNames
pub mod Filtered
pub mod Merging
pub mod Taking
