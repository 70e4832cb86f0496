pub mod When
pub mod Month
pub mod Day
pub mod Time
