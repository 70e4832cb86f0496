pub mod Beside
pub mod Driving
pub mod Saved
pub mod Saving
