mod Bare
mod Composed
pub mod Loops
pub mod RowLoops
pub mod ListedOrigins
mod Marks
mod Filled
pub mod StoredRows
mod SameRows
mod Cells
mod Weighed
mod Tested
pub mod ClosedTests
pub mod PassedTests
pub mod PassedRows
pub mod StepParts
pub mod Conclusions
mod ClosingSteps
mod StepOrigins
mod InsertOrigins
pub mod Fitting
pub mod LawsPassed
pub mod AcceptedSections
pub mod Late
