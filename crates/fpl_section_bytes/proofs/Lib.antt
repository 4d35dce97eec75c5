pub mod Pairs
pub mod Fields
pub mod Bodies
pub mod Framed
pub mod Written
pub mod Writable
