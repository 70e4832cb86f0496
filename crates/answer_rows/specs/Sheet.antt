-- The rows of reading and of writing a day sheet as numbers: of reading seventeen, the refusal and the sheet's numbers in the layout's order; of writing the refusal alone.
use Rattle.std.specs.Prelude.{ℕ, List, ◌++◌}
use Rattle.day_sheet.specs.Answer.{SheetRow, read_row, written_row}
use Rattle.day_sheet.specs.Sheet.{row_of}
use Rattle.day_sheet.specs.Reading.{SheetRead}
use Rattle.day_sheet.specs.Writing.{SheetWritten}
use Rattle.answer_rows.specs.Row.{refusal_as_list}

abbrev pub sheet_row_as_list : SheetRow → List ℕ
sheet_row_as_list row = refusal_as_list row.refusal ++ row_of row.version row.heading row.totals row.split row.forecast

abbrev pub sheet_numbers : SheetRead → List ℕ
sheet_numbers answer = sheet_row_as_list (read_row answer)

abbrev pub written_numbers : SheetWritten → List ℕ
written_numbers answer = refusal_as_list (written_row answer).refusal
