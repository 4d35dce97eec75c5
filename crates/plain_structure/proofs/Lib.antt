pub mod Held
pub mod Acting
pub mod BracketRows
pub mod Series
pub mod Ideals
pub mod Centre
pub mod Fitting
