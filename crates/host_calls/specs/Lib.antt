-- What the exported calls leave: `Left`.
pub mod Left
