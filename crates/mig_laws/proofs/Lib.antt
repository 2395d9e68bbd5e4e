pub mod Tests
pub mod Parts
pub mod Inhabitants
pub mod WrongPlaces
pub mod Sides
pub mod Exact
pub mod Formed
pub mod Laws
pub mod Named
pub mod Reading
pub mod Versions
mod Examples
