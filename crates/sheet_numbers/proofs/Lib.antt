pub mod Allowances
pub mod Conversions
