pub mod Step
pub mod Word
pub mod Packing
