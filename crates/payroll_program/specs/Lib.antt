pub mod Checked
pub mod Outcome
pub mod Verdict
pub mod Listing
