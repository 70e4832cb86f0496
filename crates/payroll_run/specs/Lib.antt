pub mod Stage
pub mod State
pub mod Behind
