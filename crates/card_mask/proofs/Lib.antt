pub mod Pieces
pub mod Copies
pub mod InChunks
pub mod MaskedCard
pub mod Clear
pub mod Again
