pub mod Counts
pub mod Action
pub mod Kept
pub mod Polys
