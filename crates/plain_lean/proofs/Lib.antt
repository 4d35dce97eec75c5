pub mod Inverting
pub mod RenumberedSteps
pub mod Renumbering
