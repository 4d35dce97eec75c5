pub mod UnitRows
pub mod PutBrackets
pub mod Terms
pub mod Lines
pub mod KeptRows
pub mod Means
pub mod Steps
