pub mod RefusalList
pub mod Fault
pub mod Rules
pub mod Nowhere
pub mod Row
