pub mod Save
pub mod Kinds
pub mod Lending
pub mod Writing
pub mod Decode
