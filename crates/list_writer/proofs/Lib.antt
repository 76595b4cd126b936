pub mod Claims
pub mod Calls
pub mod Datagrams
pub mod Outcomes
