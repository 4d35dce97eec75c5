pub mod NextAxioms
pub mod Units
pub mod Copies
