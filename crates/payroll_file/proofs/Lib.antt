pub mod FileRows
pub mod Steps
