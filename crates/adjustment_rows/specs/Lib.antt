pub mod Fields
pub mod Row
pub mod Rows
pub mod InChunks
