mod Digits
mod Steps
pub mod Assigned
pub mod Sound
mod Faults
mod Entries
pub mod Meant
