pub mod Holes
pub mod Residues
