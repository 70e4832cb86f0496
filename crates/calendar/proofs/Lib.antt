pub mod Whens
pub mod Months
pub mod AsListed
pub mod Days
pub mod Times
