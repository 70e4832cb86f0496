pub mod Chunks
pub mod Making
pub mod Taking
