pub mod Due
pub mod Rules
pub mod Step
