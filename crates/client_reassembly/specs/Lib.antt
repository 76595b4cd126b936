pub mod Answer
pub mod Advance
pub mod Offer
pub mod Post
pub mod Shapes
