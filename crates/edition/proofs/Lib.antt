pub mod Editions
pub mod Values
