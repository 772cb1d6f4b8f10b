pub mod LastRows
pub mod Numbered
pub mod Points
