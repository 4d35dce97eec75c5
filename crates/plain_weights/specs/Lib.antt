pub mod Weight
pub mod Laws
pub mod Section
pub mod Lean
