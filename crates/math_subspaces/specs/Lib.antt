pub mod Subspaces
pub mod Laws
