pub mod Walk
pub mod Strict
pub mod Progress
