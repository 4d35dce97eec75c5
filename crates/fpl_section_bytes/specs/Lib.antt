pub mod Tags
pub mod Spelling
pub mod Reading
pub mod Stored
pub mod Frames
