pub mod Alphabet
pub mod Number
pub mod Weighed
pub mod Literal
pub mod Part
