pub mod Crc
pub mod Words
