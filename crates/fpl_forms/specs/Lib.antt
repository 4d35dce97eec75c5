pub mod Ledgers
pub mod Forms
pub mod Distinct
pub mod Combining
pub mod Laws
