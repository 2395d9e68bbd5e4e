pub mod Fields
pub mod Path
pub mod Rest
pub mod Laws
pub mod Residues
