pub mod Claims
pub mod Examples
pub mod Fits
pub mod Tested
