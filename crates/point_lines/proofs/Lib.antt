pub mod CloseLemmas
mod Rows
pub mod StepLemmas
