pub mod New
pub mod Slot
pub mod View
pub mod Ready
pub mod Settled
