pub mod Masked
pub mod Mask
pub mod InChunks
