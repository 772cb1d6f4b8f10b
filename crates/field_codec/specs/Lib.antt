pub mod Field
pub mod Lists
pub mod Reading
pub mod Spelling
