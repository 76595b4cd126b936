pub mod Book
pub mod History
pub mod Lent
pub mod Shapes
pub mod Stands
pub mod Bookkeeping
pub mod OneClient
pub mod Whole
