pub mod BeatTables
pub mod Block
pub mod Feed
pub mod Grown
pub mod Marks
pub mod Tables
