pub mod Digits
pub mod Characters
pub mod Put
pub mod Offsets
