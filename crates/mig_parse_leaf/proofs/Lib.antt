pub mod LeafRead
pub mod LeafSound
