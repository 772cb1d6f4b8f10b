pub mod Form
pub mod Journal
pub mod Piece
pub mod Reading
pub mod Store
