pub mod Refusal
pub mod CardState
pub mod PayrollState
pub mod Streams
pub mod Calls
