pub mod Behind
pub mod Boundaries
pub mod Cutting
pub mod Places
pub mod Quoting
