pub mod Cut
pub mod Quoting
pub mod Words
