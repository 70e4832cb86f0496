-- Reading a day sheet: "15 for a length other than 52 and 81 or a wrong mark, then 16 for a version that doesn't go with the length, then 17".
use Rattle.std.specs.Prelude.{ℕ, List, Bool, cond, ◌&&◌, ◌||◌, length, take, drop, get_or, eqb, Result, Ok, Err}
use Rattle.refusal.specs.declared.Cause.TheVariants.{NotADaySheet, SheetVersionUnknown, SheetNumbersNotAllowed}
use Rattle.refusal.specs.declared.Refusal.{Refusal}
use Rattle.refusal.specs.Nowhere.{nowhere}
use Rattle.text.specs.Literal.{ascii, same_bytes}
use Rattle.day_sheet.specs.declared.layout.Version.{Version}
use Rattle.day_sheet.specs.declared.layout.Version.TheVariants.{One, Two}
use Rattle.sheet_numbers.specs.declared.sheet.Sheet.{Sheet}
use Rattle.day_sheet.specs.Version.{number_of, width_of}
use Rattle.day_sheet.specs.Layout.{table_of, from_places, digits_right}
use Rattle.day_sheet.specs.Sheet.{sheet_of}
use Rattle.sheet_numbers.specs.Allowed.{sheet_allowed}

-- the answer of reading: the sheet, or why it is refused
abbrev pub SheetRead : Type 0
SheetRead = Result Sheet Refusal

-- as many bytes as a version has, with the mark
abbrev pub is_marked : List ℕ → Bool
is_marked s = (eqb (length s) (width_of One) || eqb (length s) (width_of Two)) && same_bytes (take 3 s) (ascii "DSH")

-- the version that goes with a length, which is one of the two
abbrev pub version_for : ℕ → Version
version_for width = cond (eqb width (width_of One)) One Two

-- the numbers behind the mark, and the sheet that they make
abbrev pub numbers_in : Version → List ℕ → List ℕ
numbers_in v s = from_places (table_of v) (drop 3 s)

abbrev pub sheet_in : Version → List ℕ → Sheet
sheet_in v s = sheet_of v (numbers_in v s)

-- "date and digits are right", and the numbers are allowed
abbrev pub numbers_right : Version → List ℕ → Bool
numbers_right v s = digits_right (table_of v) (drop 3 s) && sheet_allowed (sheet_in v s)

-- 16, then 17
unfoldable pub read_as : Version → List ℕ → SheetRead
read_as v s =
    cond (eqb (get_or (numbers_in v s) 0 0) (number_of v))
    (cond (numbers_right v s) (Ok (sheet_in v s)) (Err (nowhere SheetNumbersNotAllowed)))
    (Err (nowhere SheetVersionUnknown))

-- what reading answers
unfoldable pub read_of : List ℕ → SheetRead
read_of s = cond (is_marked s) (read_as (version_for (length s)) s) (Err (nowhere NotADaySheet))
