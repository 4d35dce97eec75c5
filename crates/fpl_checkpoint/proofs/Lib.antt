pub mod Texts
pub mod Framing
pub mod OneHead
