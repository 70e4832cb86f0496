-- What the contracts of the rows of answers are held to. Behind a function's name: the wrong programs that are ruled out.
use Rattle.std.specs.Prelude.{ℕ, List, [], ◌∷◌, ◌++◌, replicate, Err, None, Ok, Some}
use Rattle.refusal.specs.declared.Cause.TheVariants.{EndsTooEarly, SequenceWrong, NotADaySheet, SheetNumbersNotAllowed}
use Rattle.answers.specs.CardRun.{adjusted, numbers_with, refusal, no_sale, one_sale, one_forecast, accepted}
use Rattle.answers.specs.PayrollFile.{accepted as paid}
use Rattle.answers.specs.DaySheet.{both_sets, sets_row, exchanged_row}
use Rattle.answers.specs.Samples.{sale}
use base.Fml.{Lft}
use Rattle.answer_rows.specs.contracts.card.card_row as CardRow
use Rattle.answer_rows.specs.contracts.payroll.payroll_row as PayrollRow
use Rattle.answer_rows.specs.contracts.payroll.progress_row as ProgressRow
use Rattle.answer_rows.specs.contracts.sheet.sheet_row as SheetRow
use Rattle.answer_rows.specs.contracts.sheet.written_row as WrittenRow
use Rattle.answer_rows.specs.contracts.field.field_row as FieldRow
use borrow.Fn.Read.{r_last}
use Rattle.answers.specs.Held.{Claim, fact_of, logic, memory, run, OneAnswer, Tells, lent, one}

-- what each contract says
abbrev CardRowSays : Claim CardRow.ended
CardRowSays κs a r s = fact_of ((CardRow.clauses logic memory run κs a).ensures tt r s) (r_last _)

abbrev PayrollRowSays : Claim PayrollRow.ended
PayrollRowSays κs a r s = fact_of ((PayrollRow.clauses logic memory run κs a).ensures tt r s) (r_last _)

abbrev ProgressRowSays : Claim ProgressRow.ended
ProgressRowSays κs a r s = fact_of ((ProgressRow.clauses logic memory run κs a).ensures tt r s) (r_last _)

abbrev SheetRowSays : Claim SheetRow.ended
SheetRowSays κs a r s = fact_of ((SheetRow.clauses logic memory run κs a).ensures tt r s) (r_last _)

abbrev WrittenRowSays : Claim WrittenRow.ended
WrittenRowSays κs a r s = fact_of ((WrittenRow.clauses logic memory run κs a).ensures tt r s) (r_last _)

abbrev FieldRowSays : Claim FieldRow.ended
FieldRowSays κs a r s = fact_of ((FieldRow.clauses logic memory run κs a).ensures tt r s) (r_last _)

-- a row of so many numbers behind a refusal: zeros
abbrev pub refused_row : ℕ → ℕ → ℕ → ℕ → List ℕ
refused_row number record_number column zeros = number ∷ record_number ∷ column ∷ replicate zeros 0

-- the row of an accepted card file of five records and a batch, with these numbers of its sales and adjustments; and of document 01's example
abbrev pub accepted_row : List ℕ → List ℕ
accepted_row sales = 0 ∷ 0 ∷ 0 ∷ 20240229 ∷ 1 ∷ 5 ∷ 1 ∷ sales ++ (1 ∷ [])

abbrev pub sale_row : List ℕ
sale_row = accepted_row (0 ∷ 0 ∷ 0 ∷ 0 ∷ 1 ∷ 10000 ∷ 250 ∷ 9750 ∷ 0 ∷ 0 ∷ 0 ∷ 0 ∷ [])

-- the row of the payroll file with one payment
abbrev pub payment_row : List ℕ
payment_row = 0 ∷ 0 ∷ 0 ∷ 5 ∷ 1 ∷ 1 ∷ 10000 ∷ 1 ∷ []

pub record AnswerRows (κ : Lft) : Type 0 where
  -- `card_row`: the discount for the net; the forecasts behind the settled; the credits for the debits; a refusal without its column; a file that goes on, told as accepted
  pub card_row : OneAnswer CardRowSays
  pub card_net : Tells (CardRowSays tt) (accepted 5 1 one_sale, tt) sale_row (accepted_row (0 ∷ 0 ∷ 0 ∷ 0 ∷ 1 ∷ 10000 ∷ 250 ∷ 250 ∷ 0 ∷ 0 ∷ 0 ∷ 0 ∷ []))
  pub card_forecast : Tells (CardRowSays tt) (accepted 5 1 one_forecast, tt) (accepted_row (1 ∷ 10000 ∷ 250 ∷ 9750 ∷ replicate 8 0)) sale_row
  pub card_debits : Tells (CardRowSays tt) (Some (Ok (numbers_with 5 1 no_sale (adjusted 0 0) (adjusted 1 975))), tt) (accepted_row (replicate 10 0 ++ (1 ∷ 975 ∷ []))) (accepted_row (replicate 8 0 ++ (1 ∷ 975 ∷ 0 ∷ 0 ∷ [])))
  pub card_column : Tells (CardRowSays tt) (Some (Err (refusal SequenceWrong 3 194)), tt) (refused_row 9 3 194 17) (refused_row 9 3 0 17)
  pub card_going_on : Tells (CardRowSays tt) (None, tt) (replicate 20 0) (replicate 19 0 ++ (1 ∷ []))
  -- `payroll_row`: an accepted file not told as such; record and column exchanged
  pub payroll_row_lem : OneAnswer PayrollRowSays
  pub payroll_accepted_lem : Tells (PayrollRowSays tt) (paid 1 10000, tt) payment_row (0 ∷ 0 ∷ 0 ∷ 5 ∷ 1 ∷ 1 ∷ 10000 ∷ 0 ∷ [])
  pub payroll_exchanged : Tells (PayrollRowSays tt) (Err (refusal SequenceWrong 3 9), tt) (refused_row 9 3 9 5) (refused_row 9 9 3 5)
  -- `progress_row`: a file that goes on, told as one that ended too early; an answer not told
  pub progress_row_lem : OneAnswer ProgressRowSays
  pub progress_early : Tells (ProgressRowSays tt) (None, tt) (replicate 8 0) (refused_row 12 1 0 5)
  pub progress_not_told : Tells (ProgressRowSays tt) (Some (Err (refusal EndsTooEarly 1 0)), tt) (refused_row 12 1 0 5) (replicate 8 0)
  -- `sheet_row`: the sets exchanged; a refusal told as a sheet of zeros
  pub sheet_row_lem : OneAnswer SheetRowSays
  pub sheet_exchanged : Tells (SheetRowSays tt) (Ok both_sets, tt) (0 ∷ 0 ∷ 0 ∷ sets_row) (0 ∷ 0 ∷ 0 ∷ exchanged_row)
  pub sheet_zeros : Tells (SheetRowSays tt) (Err (refusal NotADaySheet 0 0), tt) (refused_row 15 0 0 14) (replicate 17 0)
  -- `written_row`: a refusal not told; 1, which is a refusal, for done
  pub written_row : OneAnswer WrittenRowSays
  pub written_not_told : Tells (WrittenRowSays tt) (Err (refusal SheetNumbersNotAllowed 0 0), tt) (refused_row 17 0 0 0) (replicate 3 0)
  pub written_one : Tells (WrittenRowSays tt) ((Ok tt), tt) (replicate 3 0) (refused_row 1 0 0 0)
  -- `field_row`: the card's place told; a place counted from 1; the last position for the length
  pub field_row : OneAnswer FieldRowSays
  pub field_card : Tells (FieldRowSays (one κ)) (lent sale, (13, tt)) (refused_row 14 0 0 2) (0 ∷ 0 ∷ 0 ∷ 87 ∷ 19 ∷ [])
  pub field_from_one : Tells (FieldRowSays (one κ)) (lent sale, (12, tt)) (0 ∷ 0 ∷ 0 ∷ 76 ∷ 11 ∷ []) (0 ∷ 0 ∷ 0 ∷ 77 ∷ 11 ∷ [])
  pub field_last : Tells (FieldRowSays (one κ)) (lent sale, (12, tt)) (0 ∷ 0 ∷ 0 ∷ 76 ∷ 11 ∷ []) (0 ∷ 0 ∷ 0 ∷ 76 ∷ 87 ∷ [])
