pub mod Representing
pub mod Counts
pub mod Forms
pub mod Images
pub mod LeastSpaces
