pub mod Beats
pub mod Records
