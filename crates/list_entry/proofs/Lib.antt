-- `Laws` has the laws of an encoded option, and `Entered` what an answer of `entry_at` says, for the crates that link this one. `Shapes` goes through
-- the kinds, `Numbers`, `Parts` and `Readers` have what is read from the front, `Places` and `Entries` the same from a position, and `Examples` a computed
-- example.
pub mod Shapes
pub mod Numbers
pub mod Parts
pub mod Places
pub mod Found
pub mod Readers
pub mod Laws
pub mod Entries
pub mod Entered
pub mod Examples
