pub mod Status
pub mod Faults
pub mod Reply
pub mod Line
pub mod Outcome
pub mod Leaves
pub mod Put
