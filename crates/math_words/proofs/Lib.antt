pub mod Steps
pub mod Spaces
pub mod Members
pub mod Fuel
pub mod Linear
mod Numbers
mod Parts
mod Deep
mod Odd
mod Action
pub mod Letters
mod Equal
pub mod Orders
pub mod Coefficients
pub mod Main
