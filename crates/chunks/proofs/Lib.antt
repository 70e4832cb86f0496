pub mod Clipped
pub mod Held
pub mod Streams
pub mod Pieces
