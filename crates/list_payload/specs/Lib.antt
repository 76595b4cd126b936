-- `Payload` is what the writer makes, and `Back` what the reader says of that.
pub mod Payload
pub mod Back
