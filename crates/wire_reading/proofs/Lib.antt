pub mod Apcs
pub mod Cases
pub mod Claims
pub mod Faults
pub mod Lists
pub mod Pieces
pub mod Readings
pub mod Stricts
