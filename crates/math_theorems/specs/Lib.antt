pub mod Linear
pub mod Values
pub mod Standard
pub mod Examples
