pub mod RestCode
pub mod HeldView
pub mod HeldFalls
