-- The day sheet of a card file: 1 and 22; 2 for an output shorter than 81; the file's own refusals; else its sheet in the first 81 bytes.
use Rattle.std.specs.Prelude.{ℕ, ◌≡◌, List, ◌++◌, length, drop, Some, None, Ok, Err}
use Rattle.card_run.specs.declared.answer.Accepted.{Accepted as Numbers}
use Rattle.card_run.specs.Answer.{CardAnswer}
use Rattle.card_file.specs.Room.{answer_with_room}
use Rattle.sheet_numbers.specs.declared.sheet.Sheet.{Sheet}
use Rattle.sheet_numbers.specs.declared.sheet.Sheet.TheVariants.{Version2}
use Rattle.day_sheet.specs.Sheet.{bytes_of}

-- "Its day sheet carries these but records, and the edition"; it is version 2, and the split is known
abbrev pub sheet_from : ℕ → Numbers → Sheet
sheet_from edition a = Version2 (record { edition = edition; date = a.date; movement = a.movement; batches = a.batches }) 1 a.totals

abbrev pub sheet_answer : ℕ → List ℕ → ℕ → CardAnswer
sheet_answer edition file room = answer_with_room edition file 81 room

-- what the output then holds; refused, "lent output is unchanged"
unfoldable pub sheet_into : ℕ → CardAnswer → List ℕ → List ℕ
sheet_into edition None out = out
sheet_into edition (Some (Ok a)) out = bytes_of (sheet_from edition a) ++ drop 81 out
sheet_into edition (Some (Err r)) out = out

-- the answer, and the output at the end
pub record SheetOf (edition : ℕ) (file out : List ℕ) (answer : CardAnswer) (after : List ℕ) : Type 0 where
  pub answers : answer ≡ sheet_answer edition file (length out)
  pub leaves : after ≡ sheet_into edition (sheet_answer edition file (length out)) out
