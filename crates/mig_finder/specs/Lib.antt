pub mod Places
pub mod View
pub mod Ways
pub mod Law
