-- `Listing` says what the listing of options from the wire is.
pub mod Listing
