-- What is promised of a sheet that was read from a file, or converted: the answer is that of some bytes. That they are the file's is the system call's affair.
use Rattle.std.specs.Prelude.{ℕ, ◌≡◌, List, Result, Ok, Err}
use Rattle.day_sheet.specs.Reading.{SheetRead, read_of}
use Rattle.sheet_numbers.specs.Converted.{converted}
use Rattle.program.specs.declared.mistake.Mistake.{Mistake}
use Rattle.program.specs.OfTheFiles.{OfTheFiles}

-- what was read, or why nothing was
abbrev pub SheetOutcome : Type 0
SheetOutcome = Result SheetRead Mistake

abbrev pub SheetChecked : SheetOutcome → Type 0
SheetChecked (Ok read) = (bytes : List ℕ) × (read ≡ read_of bytes)
SheetChecked (Err mistake) = OfTheFiles mistake

-- The sheet that was read, in the other version. `SheetChecked` and `SheetConverted` tell the same values from each other, and so are no invariants of the type.
abbrev pub converted_read : SheetRead → SheetRead
converted_read (Ok sheet) = Ok (converted sheet)
converted_read (Err refusal) = Err refusal

abbrev pub SheetConverted : SheetOutcome → Type 0
SheetConverted (Ok read) = (bytes : List ℕ) × (read ≡ converted_read (read_of bytes))
SheetConverted (Err mistake) = OfTheFiles mistake
