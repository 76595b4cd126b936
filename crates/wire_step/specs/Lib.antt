pub mod Kinds
pub mod Step
pub mod Sizes
