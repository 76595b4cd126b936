pub mod Laws
pub mod RunBytes
pub mod ZeroBytes
