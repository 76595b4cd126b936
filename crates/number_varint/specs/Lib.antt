-- `SevenBit` says what a seven-bit number is, and `Answer` what the functions of `src/` answer.
pub mod SevenBit
pub mod Answer
