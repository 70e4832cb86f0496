pub mod Sum
pub mod Amounts
pub mod TwoSets
