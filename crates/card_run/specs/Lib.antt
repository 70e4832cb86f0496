pub mod Stage
pub mod Batch
pub mod Adjusted
pub mod Running
pub mod Answer
