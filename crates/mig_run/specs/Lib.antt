pub mod Lines
pub mod Chains
pub mod Folder
pub mod Command
pub mod Causes
pub mod View
