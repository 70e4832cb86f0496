pub mod ThereAndBack
pub mod Calls
