pub mod CardNumbers
pub mod Cursor
pub mod Cuts
pub mod Hash
pub mod Layout
pub mod Output
