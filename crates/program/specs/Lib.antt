pub mod Argument
pub mod OfTheFiles
pub mod Reason
pub mod Sentence
pub mod Outcome
pub mod Stream
