-- Writing a day sheet: "writing a new sheet with edition 1 gives 22 before 17"; "writing refuses 17, then 2"; it "fills exactly 52 bytes", of version 2 exactly 81.
use Rattle.std.specs.Prelude.{ℕ, ◌≡◌, List, ◌++◌, cond, length, drop, leb, Result, Ok, Err}
use Rattle.refusal.specs.declared.Cause.TheVariants.{OutputTooShort, SheetNumbersNotAllowed, EditionRetired}
use Rattle.refusal.specs.declared.Refusal.{Refusal}
use Rattle.refusal.specs.Nowhere.{nowhere}
use Rattle.edition.specs.Known.{retired}
use Rattle.sheet_numbers.specs.declared.sheet.Sheet.{Sheet}
use Rattle.sheet_numbers.specs.Edition.{sheet_edition}
use Rattle.day_sheet.specs.Version.{width_of}
use Rattle.day_sheet.specs.Sheet.{version_of, bytes_of}
use Rattle.sheet_numbers.specs.Allowed.{sheet_allowed}

-- the answer of writing: done, or why it is refused
abbrev pub SheetWritten : Type 0
SheetWritten = Result (Unit {0}) Refusal

-- how many bytes a sheet has
abbrev pub sheet_width : Sheet → ℕ
sheet_width s = width_of (version_of s)

-- a sheet that is put into an output as it is: 2, or done
unfoldable pub put_answer : Sheet → ℕ → SheetWritten
put_answer sheet room = cond (leb (sheet_width sheet) room) (Ok tt) (Err (nowhere OutputTooShort))

-- and what the output then holds
unfoldable pub put_result : Sheet → List ℕ → List ℕ
put_result sheet out = cond (leb (sheet_width sheet) (length out)) (bytes_of sheet ++ drop (sheet_width sheet) out) out

pub record PutInto (sheet : Sheet) (out : List ℕ) (answer : SheetWritten) (after : List ℕ) : Type 0 where
  pub answers : answer ≡ put_answer sheet (length out)
  pub leaves : after ≡ put_result sheet out

-- what writing answers, given the sheet and the output's length
unfoldable pub write_answer : Sheet → ℕ → SheetWritten
write_answer sheet room =
    cond (retired (sheet_edition sheet))
    (Err (nowhere EditionRetired))
    (cond (sheet_allowed sheet) (put_answer sheet room) (Err (nowhere SheetNumbersNotAllowed)))

-- and what the output then holds
unfoldable pub write_result : Sheet → List ℕ → List ℕ
write_result sheet out = cond (retired (sheet_edition sheet)) out (cond (sheet_allowed sheet) (put_result sheet out) out)

-- writing a sheet into an output: the answer, and the output at the end
pub record Writes (sheet : Sheet) (out : List ℕ) (answer : SheetWritten) (after : List ℕ) : Type 0 where
  pub answers : answer ≡ write_answer sheet (length out)
  pub leaves : after ≡ write_result sheet out
