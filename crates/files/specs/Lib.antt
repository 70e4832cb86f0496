pub mod Loaded
pub mod Reading
pub mod Standard
