pub mod Compact
pub mod Conclusion
pub mod Plain
pub mod Slim
pub mod Laws
