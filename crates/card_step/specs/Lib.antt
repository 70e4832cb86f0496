pub mod Rules
pub mod Behind
pub mod Step
