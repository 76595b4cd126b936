pub mod Octets
pub mod Runs
pub mod Zeros
