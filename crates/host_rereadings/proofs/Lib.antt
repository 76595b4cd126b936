-- `Claims`: each answer of the papers can be read back from its value.
pub mod Claims
