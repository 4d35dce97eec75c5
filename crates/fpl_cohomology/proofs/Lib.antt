pub mod Ranges
pub mod Cells
pub mod Splits
pub mod Members
pub mod Putting
pub mod Parts
pub mod Lines
