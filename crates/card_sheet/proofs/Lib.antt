pub mod Counts
pub mod Allowed
pub mod Answers
