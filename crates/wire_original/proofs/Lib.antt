pub mod Causes
pub mod Lists
pub mod Offsets
pub mod Refusals
pub mod Rereadings
pub mod Rereads
pub mod Stricts
