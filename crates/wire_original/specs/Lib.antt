pub mod Original
pub mod Rereading
pub mod ByWalk
