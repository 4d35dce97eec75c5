mod Runs
mod Closing
mod Weighing
pub mod Writable
pub mod WritableSections
pub mod Raising
mod Onward
mod Coefficients
mod CellCoefficients
