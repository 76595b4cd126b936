pub mod Xor
pub mod Steps
