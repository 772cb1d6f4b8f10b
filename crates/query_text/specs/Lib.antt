pub mod Fault
pub mod Asked
pub mod Shown
pub mod Told
pub mod Replies
