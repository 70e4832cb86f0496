pub mod Sentences
pub mod Taken
