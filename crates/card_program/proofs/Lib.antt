pub mod Ended
pub mod Texts
