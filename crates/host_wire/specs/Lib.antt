-- What the calls on a payload alone answer and leave: `Left`.
pub mod Left
