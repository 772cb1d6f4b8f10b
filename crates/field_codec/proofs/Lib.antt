pub mod Taking
pub mod Numbers
pub mod Combined
pub mod Fields
pub mod Lengths
pub mod Lists
pub mod Loops
