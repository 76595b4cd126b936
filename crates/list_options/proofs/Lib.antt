-- `Listeds` has the laws of listings, for the crates that link this one; `Listings` shows that what a walk lists has an encoding, and `Founds` that an
-- option on the wire fits its kind. `Contents`, `Writes` and `Rests` have what the loops need, and `Examples` computed examples.
pub mod Founds
pub mod Listings
pub mod Contents
pub mod Writes
pub mod Rests
pub mod Listeds
pub mod Examples
