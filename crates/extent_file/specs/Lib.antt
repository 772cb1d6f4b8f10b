pub mod Directory
pub mod Fields
pub mod Find
pub mod Form
pub mod Pages
pub mod Slot
pub mod Writing
