pub mod Contracts
pub mod Replaced
