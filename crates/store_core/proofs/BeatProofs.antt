pub mod BeatLaw
pub mod Loops
pub mod RecordLaw
