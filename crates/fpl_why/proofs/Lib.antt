pub mod Apart
pub mod Residues
pub mod Lists
pub mod Citing
pub mod Moves
pub mod Axioms
