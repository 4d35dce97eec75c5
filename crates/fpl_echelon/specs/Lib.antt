pub mod Index
pub mod Leads
pub mod Outcomes
