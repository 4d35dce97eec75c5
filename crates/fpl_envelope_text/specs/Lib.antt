pub mod Numerals
pub mod Texts
pub mod Plain
pub mod Lists
pub mod Shows
