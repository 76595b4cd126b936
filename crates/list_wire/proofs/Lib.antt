pub mod Laying
pub mod Listed
