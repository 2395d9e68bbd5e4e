pub mod Code
pub mod Size
pub mod Fault
pub mod View
pub mod Falls
pub mod KindSet
pub mod Retyped
