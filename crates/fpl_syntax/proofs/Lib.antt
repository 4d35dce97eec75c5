pub mod Coefficients
pub mod Running
pub mod StageViews
pub mod Stages
pub mod Tails
pub mod Sentences
pub mod Faults
