pub mod Decisions
pub mod Drives
pub mod Everywhere
pub mod Runs
pub mod Slashes
pub mod WayOn
