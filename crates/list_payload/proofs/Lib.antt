pub mod Wires
pub mod Areas
pub mod ReadBack
pub mod Claims
pub mod Fills
