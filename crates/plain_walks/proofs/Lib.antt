pub mod Stored
pub mod Standing
pub mod Reasons
pub mod Walking
pub mod StopsThere
pub mod Parts
