pub mod Decimals
pub mod Lengths
pub mod Marked
pub mod Putting
pub mod Shown
