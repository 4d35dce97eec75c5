pub mod TypeA
pub mod Laws
