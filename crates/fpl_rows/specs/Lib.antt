pub mod Positions
pub mod Packing
pub mod Cells
pub mod Marking
pub mod Working
pub mod Forms
pub mod Meaning
