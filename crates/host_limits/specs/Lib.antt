pub mod Layout
pub mod Plans
