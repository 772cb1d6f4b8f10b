pub mod Cached
pub mod Given
