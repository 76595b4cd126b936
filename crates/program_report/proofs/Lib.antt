pub mod Sounds
pub mod Examples
