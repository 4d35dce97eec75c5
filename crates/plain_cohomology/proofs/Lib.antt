pub mod Lists
pub mod Tuples
pub mod Triples
pub mod Kept
pub mod Degrees
pub mod Low
pub mod Fitting
