pub mod Sums
pub mod Totals
pub mod Sets
