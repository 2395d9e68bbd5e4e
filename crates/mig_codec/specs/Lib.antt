pub mod Laws
pub mod Parted
pub mod Reading
