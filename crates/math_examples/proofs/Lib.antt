pub mod SmallTables
pub mod OddPair
pub mod Doubled
pub mod Both
