-- What a reading of an original is among the values of include/wuraketozo.h (`Rereading`), and what of one is listed (`Listable`).
pub mod Rereading
pub mod Listable
