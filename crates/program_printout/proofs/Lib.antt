-- `Sizes` bounds a text's length, `Inputs` has the laws of a whole input, and `Examples` computed examples.
pub mod Sizes
pub mod Inputs
pub mod Examples
