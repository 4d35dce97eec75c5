pub mod Matrices
pub mod MapText
pub mod Laws
