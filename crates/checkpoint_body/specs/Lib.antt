pub mod Body
pub mod Canonical
pub mod Fields
pub mod Pages
pub mod Records
pub mod Size
pub mod Slots
