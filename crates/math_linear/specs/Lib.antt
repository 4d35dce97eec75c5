pub mod Vector
pub mod Linear
pub mod Span
pub mod Closed
pub mod Echelon
pub mod Kernel
pub mod Lists
