pub mod Facts
pub mod PutBack
pub mod Apart
pub mod Tests
pub mod Steps
pub mod Lists
pub mod Demand3
pub mod Corollaries
