-- What a reading of a payload is among the values of include/wuraketozo.h (`Reading`), what of one is listed (`Listable`), and how it
-- is asked for (`Setting`).
pub mod Reading
pub mod Listable
pub mod Setting
