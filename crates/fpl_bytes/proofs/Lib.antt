pub mod Lowest
pub mod Pushed
pub mod Steps
pub mod WholeNumbers
pub mod StoredNumbers
pub mod Items
