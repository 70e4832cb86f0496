pub mod Texts
pub mod Wholes
