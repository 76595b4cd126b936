-- `Shape` says how an option of each kind stands in an encoded option list, and `Option` writes and reads one. `Answer` says what the functions answer.
pub mod Shape
pub mod Option
pub mod Answer
