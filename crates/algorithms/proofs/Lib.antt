pub mod CellLemmas
pub mod Products
pub mod RowLemmas
pub mod Rows
