pub mod SameTemplate
pub mod FieldFn
pub mod NewRecord
pub mod Act
