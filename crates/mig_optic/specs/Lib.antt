pub mod Code
pub mod AnyView
pub mod AnyFalls
