pub mod Nops
