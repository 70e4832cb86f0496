-- "The sheet's version sets the conversion's direction; 2 comes last."
use Rattle.std.specs.Prelude.{ℕ, ◌≡◌, List, [], length, Ok, Err}
use Rattle.sheet_numbers.specs.Converted.{converted}
use Rattle.day_sheet.specs.Sheet.{bytes_of}
use Rattle.day_sheet.specs.Reading.{SheetRead, read_of}
use Rattle.day_sheet.specs.Writing.{SheetWritten, put_answer, put_result}

-- the refusals of reading, then 2
unfoldable pub convert_answer : SheetRead → ℕ → SheetWritten
convert_answer (Ok sheet) room = put_answer (converted sheet) room
convert_answer (Err r) room = Err r

unfoldable pub convert_result : SheetRead → List ℕ → List ℕ
convert_result (Ok sheet) out = put_result (converted sheet) out
convert_result (Err r) out = out

-- converting a sheet's bytes into an output: the answer, and the output at the end
pub record Converts (sheet out : List ℕ) (answer : SheetWritten) (after : List ℕ) : Type 0 where
  pub answers : answer ≡ convert_answer (read_of sheet) (length out)
  pub leaves : after ≡ convert_result (read_of sheet) out

-- the bytes of the sheet in the other version; none where it cannot be read
abbrev pub bytes_of_read : SheetRead → List ℕ
bytes_of_read (Ok sheet) = bytes_of (converted sheet)
bytes_of_read (Err r) = []

abbrev pub converted_bytes : List ℕ → List ℕ
converted_bytes sheet = bytes_of_read (read_of sheet)
