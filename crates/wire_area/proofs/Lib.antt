pub mod Areas
pub mod Examples
pub mod Faults
pub mod Fills
pub mod Locality
pub mod Paddings
pub mod Stricts
pub mod Tails
