-- `Facts` has what the calls leave, from what the crates below leave.
pub mod Facts
