pub mod Text
pub mod Faults
pub mod Before
pub mod Scan
pub mod Right
pub mod Steps
pub mod Law
