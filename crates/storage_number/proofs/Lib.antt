pub mod Fitting
pub mod Showing
pub mod Decoding
pub mod Laws
