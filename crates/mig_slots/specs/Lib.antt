pub mod View
pub mod Fitting
pub mod Sorted
pub mod Behind
