pub mod Axioms
pub mod Facts
