pub mod Table
pub mod Events
pub mod Owed
pub mod Apart
pub mod Demand3
