pub mod Words
pub mod Action
pub mod Envelope
pub mod Polys
pub mod Laws
