pub mod Holds
pub mod Raised
pub mod Printed
