pub mod Meaning
