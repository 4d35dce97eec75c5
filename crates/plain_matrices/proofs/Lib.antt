pub mod Residues
pub mod Entries
pub mod BracketNumbers
pub mod Expressions
pub mod Respect
