pub mod Classes
pub mod Locality
pub mod Steps
