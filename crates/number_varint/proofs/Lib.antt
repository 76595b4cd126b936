-- `Laws` has the laws of seven-bit numbers, for the crates that link this one. `Groups` has the inductions behind them, `Room` and `Partly` what
-- holds in the midst of reading a number, and `Examples` computed examples.
pub mod Groups
pub mod Laws
pub mod Room
pub mod Partly
pub mod Examples
