pub mod CutFrames
pub mod Sizes
pub mod OriginCounts
pub mod StoredParts
pub mod Sections
pub mod Walking
pub mod Written
pub mod Heads
