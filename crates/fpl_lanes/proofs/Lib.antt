pub mod Blanks
pub mod Remainders
