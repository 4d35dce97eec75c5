pub mod MachineSteps
pub mod Cutting
pub mod Advancing
