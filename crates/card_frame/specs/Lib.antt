pub mod A0
pub mod L0
pub mod L9
pub mod A9
