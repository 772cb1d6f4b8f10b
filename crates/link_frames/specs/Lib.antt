pub mod Children
pub mod DataForm
pub mod Fault
pub mod Fields
pub mod Frames
pub mod Held
pub mod Reading
pub mod Stream
