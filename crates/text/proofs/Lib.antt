pub mod Strays
pub mod Alphabets
pub mod Numbers
pub mod Weights
pub mod Literals
pub mod Parts
