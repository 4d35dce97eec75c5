pub mod Citing
pub mod Marks
pub mod Numbering
pub mod Kept
pub mod Steps
