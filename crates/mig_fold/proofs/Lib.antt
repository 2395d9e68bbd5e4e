pub mod Treats
pub mod Folds
