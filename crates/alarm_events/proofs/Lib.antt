pub mod Fields
pub mod AlarmsLaw
