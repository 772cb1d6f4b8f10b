pub mod Cut
pub mod Glob
pub mod Pattern
pub mod Piece
pub mod Words
