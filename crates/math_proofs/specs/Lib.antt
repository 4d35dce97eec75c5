pub mod Rules
pub mod Shown
pub mod Renumbering
