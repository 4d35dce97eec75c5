pub mod Plain
pub mod Fitting
pub mod Spans
pub mod Steps
