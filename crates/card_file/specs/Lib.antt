pub mod Feeding
pub mod CardFile
pub mod Room
