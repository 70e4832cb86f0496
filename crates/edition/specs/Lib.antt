pub mod Known
pub mod Edition
