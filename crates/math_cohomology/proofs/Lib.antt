pub mod Functionals
pub mod Twice
pub mod Sorted
pub mod Linear
pub mod Vectors
pub mod DegreeOne
pub mod DegreeTwo
