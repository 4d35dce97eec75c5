mod Supers
pub mod Products
mod Commutators
pub mod Main
pub mod Places
pub mod Ranks
