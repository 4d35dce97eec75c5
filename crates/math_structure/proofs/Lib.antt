pub mod Centre
pub mod Series
pub mod Rounds
