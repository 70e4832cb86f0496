mod SheetRows
mod RefusedRows
