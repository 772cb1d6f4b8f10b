pub mod Bytes
pub mod Every
pub mod Searches
