pub mod SheetOf
pub mod PlainSheet
