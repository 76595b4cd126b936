pub mod Next
pub mod Places
