pub mod Behind
pub mod Call
