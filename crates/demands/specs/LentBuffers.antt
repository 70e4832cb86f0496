-- DEMAND 1 FOR WHAT IS LENT: a refused answer leaves all of it as it was, and its numbers are zero.
use Rattle.std.specs.Prelude.{ℕ, ◌≡◌, List}
use Rattle.refusal.specs.Row.{RefusalRow, no_refusal}
use Rattle.card_run.specs.Running.{no_numbers}
use Rattle.card_run.specs.Answer.{card_file_row, CardAnswer}
use Rattle.card_mask.specs.Mask.{Masks}
use Rattle.card_sheet.specs.SheetOf.{SheetOf}
use Rattle.sheet_numbers.specs.declared.sheet.Sheet.{Sheet}
use Rattle.day_sheet.specs.Writing.{Writes}
use Rattle.day_sheet.specs.Conversion.{Converts}
use Rattle.day_sheet.specs.Answer.{no_sheet, written_row}
use Rattle.day_sheet.specs.Writing.{SheetWritten}

-- "All counts and totals in a refused answer are zero, and lent output is unchanged", whatever that means of what was lent
pub record LeftAlone (unchanged zero : Type 0) : Type 0 where
  pub lent : unchanged
  pub counts : zero

abbrev pub IfRefused : RefusalRow → Type 0 → Type 0 → Type 0
IfRefused refusal unchanged zero = (refusal ≡ no_refusal → ⊥) → LeftAlone unchanged zero

-- every question that is lent a buffer and can refuse, by its contract: one that is to come is one more field
pub record RefusedLeavesAlone : Type 0 where
  pub masking : (edition : ℕ) (file out : List ℕ) (answer : CardAnswer) (after : List ℕ) → Masks edition file out answer after →
      IfRefused (card_file_row answer).refusal (after ≡ out) ((card_file_row answer).numbers ≡ no_numbers)
  pub sheet_of_file : (edition : ℕ) (file out : List ℕ) (answer : CardAnswer) (after : List ℕ) → SheetOf edition file out answer after →
      IfRefused (card_file_row answer).refusal (after ≡ out) ((card_file_row answer).numbers ≡ no_numbers)
  pub writing_sheet : (sheet : Sheet) (out : List ℕ) (answer : SheetWritten) (after : List ℕ) → Writes sheet out answer after →
      IfRefused (written_row answer).refusal (after ≡ out) (written_row answer ≡ no_sheet (written_row answer).refusal)
  pub converting_sheet : (sheet out : List ℕ) (answer : SheetWritten) (after : List ℕ) → Converts sheet out answer after →
      IfRefused (written_row answer).refusal (after ≡ out) (written_row answer ≡ no_sheet (written_row answer).refusal)
