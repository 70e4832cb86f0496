pub mod Chunks
pub mod Numbers
pub mod Parts
pub mod Pattern
pub mod Sizes
