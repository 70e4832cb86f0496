pub mod Search
pub mod Cuts
pub mod Pieces
pub mod Ends
pub mod Finished
