-- `Encoding` writes and reads encoded option lists. `Wire` says what `check` answers: the size of options on the wire.
pub mod Encoding
pub mod Wire
