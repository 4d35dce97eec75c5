pub mod Meaning
pub mod Scalars
pub mod Sound
pub mod Mono
pub mod Degrees
