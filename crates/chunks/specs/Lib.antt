pub mod Unfinished
pub mod Chunks
pub mod Waiting
pub mod Held
