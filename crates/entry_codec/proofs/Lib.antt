pub mod EntriesLaw
pub mod Fields
pub mod Lengths
pub mod Loops
