pub mod Put
pub mod Number
pub mod Line
pub mod Shown
