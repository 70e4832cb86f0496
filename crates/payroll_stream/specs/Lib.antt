pub mod Stream
pub mod Feeding
