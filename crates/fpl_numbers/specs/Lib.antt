pub mod Numbers
pub mod Results
pub mod Fields
pub mod Kinds
pub mod Reads
pub mod Quotients
