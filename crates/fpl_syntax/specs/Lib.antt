pub mod Grammar
pub mod Kinds
pub mod Machine
pub mod Sight
