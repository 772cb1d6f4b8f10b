pub mod BlockSteps
pub mod Values
pub mod NodeSteps
