pub mod Taking
pub mod Concluding
pub mod Learning
pub mod Zeros
pub mod Prefixes
pub mod Sides
