pub mod Cursor
pub mod Filling
pub mod Origins
pub mod Rows
pub mod Terms
pub mod Triples
