pub mod Contracts
pub mod Leaning
pub mod IndexLemmas
pub mod LeadIndex
pub mod Passing
pub mod PlaceSweeps
pub mod Spanning
