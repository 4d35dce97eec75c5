pub mod Forms
pub mod Pairs
pub mod Rows
pub mod Text
