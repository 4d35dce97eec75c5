pub mod Codes
pub mod Numbers
pub mod Reading
pub mod Reasons
