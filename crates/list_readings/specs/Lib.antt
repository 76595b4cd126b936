-- `Catalogue` says what the listing of a reading is, `Back` what it is of a reading of what was written.
pub mod Catalogue
pub mod Back
