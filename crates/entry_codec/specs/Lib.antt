pub mod Charts
pub mod Dimensions
pub mod Entries
pub mod Lists
pub mod Rows
pub mod Words
