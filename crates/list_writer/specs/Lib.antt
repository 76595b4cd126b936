-- `Answer` says what the writer answers and leaves.
pub mod Answer
pub mod Plain
