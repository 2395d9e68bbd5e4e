pub mod Lift
pub mod Small
pub mod View
pub mod Setting
pub mod Code
pub mod Writable
