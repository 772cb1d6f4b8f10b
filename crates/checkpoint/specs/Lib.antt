pub mod Files
pub mod Form
pub mod Loading
pub mod Switching
