pub mod Needed
pub mod Numbers
