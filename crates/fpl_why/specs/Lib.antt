pub mod Checking
pub mod Texts
