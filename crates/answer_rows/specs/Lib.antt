pub mod Row
pub mod Card
pub mod Payroll
pub mod Sheet
pub mod Field
