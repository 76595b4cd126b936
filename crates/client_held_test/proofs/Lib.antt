pub mod Marks
pub mod OnePass
pub mod Places
