pub mod Content
pub mod SheetRead
pub mod Verdict
