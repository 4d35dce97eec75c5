pub mod Freely
pub mod Homogeneous
pub mod Derived
pub mod Degrees
pub mod Parities
pub mod Equations
pub mod Within
pub mod Over
