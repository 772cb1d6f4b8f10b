pub mod Items
pub mod Page
pub mod Records
pub mod Slots
