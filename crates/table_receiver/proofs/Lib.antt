pub mod Facts
pub mod Packets
