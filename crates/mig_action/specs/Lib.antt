pub mod Moves
pub mod Nodes
pub mod Laws
