pub mod Finished
pub mod InHand
pub mod Waiting
