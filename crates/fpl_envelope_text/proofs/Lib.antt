pub mod Numerals
pub mod Names
pub mod Words
pub mod Rows
pub mod Products
pub mod Enveloped
pub mod Shown
