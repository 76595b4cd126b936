pub mod Limits
pub mod Lists
pub mod Ranges
pub mod Record
pub mod Completion
pub mod Post
