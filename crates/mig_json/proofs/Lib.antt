pub mod Lent
pub mod Parts
pub mod Again
pub mod ReadAgain
pub mod Decoded
pub mod Edits
