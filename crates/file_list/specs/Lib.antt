pub mod Line
pub mod Tally
pub mod Listed
