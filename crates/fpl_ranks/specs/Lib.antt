pub mod Leads
pub mod Ranks
pub mod Texts
