pub mod Verdict
pub mod Extents
pub mod Packet
pub mod Reading
pub mod ByWalk
