pub mod Edition
pub mod Allowed
pub mod Converted
