pub mod RefusalList
pub mod Numbered
pub mod RefusalRows
pub mod Faults
pub mod Rules
pub mod Rows
