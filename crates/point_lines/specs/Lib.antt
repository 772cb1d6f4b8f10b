pub mod Closing
pub mod Judged
pub mod Reader
pub mod Steps
pub mod Told
