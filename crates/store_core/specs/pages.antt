pub mod Items
pub mod Pages
pub mod Ranges
pub mod Sorting
