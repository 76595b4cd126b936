-- `Values` has the laws of listed values, `Claims` what is listed of a reading, of a rereading and of what was written, `Calls` the same of calls, and `Examples` computed
-- examples.
pub mod Values
pub mod Claims
pub mod Calls
pub mod Examples
