pub mod Views
pub mod Once
pub mod Fits
pub mod Orders
pub mod Places
