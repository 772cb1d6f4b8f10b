pub mod Points
pub mod Windows
pub mod Joining
pub mod Tiers
pub mod Planning
pub mod InMemory
pub mod ListPoints
