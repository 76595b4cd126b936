-- `Laws` has the laws of encoded option lists, for the crates that link this one. `Shapes` has the sizes of fields, `Checks` the walk that measures, and
-- `Examples` computed examples.
pub mod Shapes
pub mod Laws
pub mod Checks
pub mod Examples
