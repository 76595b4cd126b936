-- `Parts` names what the functions here and in the writer do: parts of a payload laid over a buffer.
pub mod Parts
