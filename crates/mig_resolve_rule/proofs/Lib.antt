pub mod Alone
pub mod Neither
