pub mod Meanings
pub mod Parts
