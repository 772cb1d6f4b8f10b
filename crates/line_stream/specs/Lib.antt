pub mod Chain
pub mod Run
pub mod Stream
