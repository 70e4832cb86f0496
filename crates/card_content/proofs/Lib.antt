pub mod Rows
pub mod FieldParts
pub mod Ranges
