pub mod Laws
pub mod Words
pub mod Digits
pub mod Vectors
