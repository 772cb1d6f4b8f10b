pub mod First
pub mod Next
pub mod Reading
pub mod Segments
pub mod Tiers
