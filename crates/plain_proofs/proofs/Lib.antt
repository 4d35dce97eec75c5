pub mod Tests
mod Members
mod Citing
mod Passing
mod Instances
