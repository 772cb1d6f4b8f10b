pub mod Any
pub mod Fields
pub mod Parts
pub mod Registered
pub mod SidesLaw
pub mod SizeLaws
