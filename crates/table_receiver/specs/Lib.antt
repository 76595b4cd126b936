pub mod Receive
pub mod Packets
