pub mod Premises
pub mod RowLaws
pub mod TableLaws
pub mod PrimeLaws
pub mod Late
