-- What the contracts of the questions that C asks of whole files, day sheets and sales are held to. Behind a function's name: the wrong programs that are ruled out.
use Rattle.std.specs.Prelude.{ℕ, List, [], ◌∷◌, ◌++◌, length, take, drop, replicate}
use Rattle.std.specs.Borrow.{Bor, MutBor}
use Rattle.totals.specs.Amounts.{no_totals}
use Rattle.day_sheet.specs.Sheet.{bytes_of}
use Rattle.answers.specs.CardMask.{masked_sale, day_sheet}
use Rattle.answers.specs.DaySheet.{sheet_of, split_sheet, both_sets, forecasts, settled, sets_row}
use Rattle.answers.specs.AnswerRows.{refused_row, sale_row, payment_row}
use Rattle.demands.specs.ExampleFile.{file_of}
use Rattle.answers.specs.Samples.{at, sale, card_file, room, payment, payroll_file, payroll_file_of}
use base.Fml.{Lft}
use Rattle.c_files.specs.contracts.card.lossivurn_card_check as CardCheck
use Rattle.c_files.specs.contracts.card.lossivurn_card_mask as CardMask
use Rattle.c_files.specs.contracts.card.lossivurn_card_sheet as CardSheet
use Rattle.c_files.specs.contracts.payroll.lossivurn_payroll_check as PayrollCheck
use Rattle.c_files.specs.contracts.sale.lossivurn_sale_field as SaleField
use Rattle.c_files.specs.contracts.sheet.lossivurn_sheet_read as SheetRead
use Rattle.c_files.specs.contracts.sheet.lossivurn_sheet_write_1 as SheetWrite1
use Rattle.c_files.specs.contracts.sheet.lossivurn_sheet_write_2 as SheetWrite2
use Rattle.c_files.specs.contracts.sheet.lossivurn_sheet_convert as SheetConvert
use borrow.Fn.Read.{r_last}
use Rattle.answers.specs.Held.{Claim, fact_of, logic, memory, run, OneOutcome, OneRowAndOutput, Outcome, TellsOutcome, lent, lent_mut, two, three}

-- what each contract says
abbrev CardCheckSays : Claim CardCheck.ended
CardCheckSays κs a r s = fact_of ((CardCheck.clauses logic memory run κs a).ensures tt r s) (r_last _)

abbrev CardMaskSays : Claim CardMask.ended
CardMaskSays κs a r s = fact_of ((CardMask.clauses logic memory run κs a).ensures tt r s) (r_last _)

abbrev CardSheetSays : Claim CardSheet.ended
CardSheetSays κs a r s = fact_of ((CardSheet.clauses logic memory run κs a).ensures tt r s) (r_last _)

abbrev PayrollCheckSays : Claim PayrollCheck.ended
PayrollCheckSays κs a r s = fact_of ((PayrollCheck.clauses logic memory run κs a).ensures tt r s) (r_last _)

abbrev SaleFieldSays : Claim SaleField.ended
SaleFieldSays κs a r s = fact_of ((SaleField.clauses logic memory run κs a).ensures tt r s) (r_last _)

abbrev SheetReadSays : Claim SheetRead.ended
SheetReadSays κs a r s = fact_of ((SheetRead.clauses logic memory run κs a).ensures tt r s) (r_last _)

abbrev SheetWrite1Says : Claim SheetWrite1.ended
SheetWrite1Says κs a r s = fact_of ((SheetWrite1.clauses logic memory run κs a).ensures tt r s) (r_last _)

abbrev SheetWrite2Says : Claim SheetWrite2.ended
SheetWrite2Says κs a r s = fact_of ((SheetWrite2.clauses logic memory run κs a).ensures tt r s) (r_last _)

abbrev SheetConvertSays : Claim SheetConvert.ended
SheetConvertSays κs a r s = fact_of ((SheetConvert.clauses logic memory run κs a).ensures tt r s) (r_last _)

-- what is lent: bytes or numbers, and a row; under an edition; with an output; with both
abbrev asked : List ℕ → List ℕ → Bor (List ℕ) × (MutBor (List ℕ) × Unit {0})
asked given row = (lent given, (lent_mut row, tt))

abbrev under : ℕ → List ℕ → List ℕ → ℕ × (Bor (List ℕ) × (MutBor (List ℕ) × Unit {0}))
under edition file row = (edition, asked file row)

abbrev into : List ℕ → List ℕ → List ℕ → Bor (List ℕ) × (MutBor (List ℕ) × (MutBor (List ℕ) × Unit {0}))
into given out row = (lent given, (lent_mut out, (lent_mut row, tt)))

abbrev into_under : ℕ → List ℕ → List ℕ → List ℕ → ℕ × (Bor (List ℕ) × (MutBor (List ℕ) × (MutBor (List ℕ) × Unit {0})))
into_under edition file out row = (edition, into file out row)

-- a field's number between bytes and row
abbrev numbered : ℕ → List ℕ → Bor (List ℕ) × (ℕ × (MutBor (List ℕ) × Unit {0}))
numbered number row = (lent sale, (number, (lent_mut row, tt)))

-- the outcome of a question that answers by what it leaves in what is lent
abbrev left : {S : Type 0} → S → Outcome (Unit {0}) S
left exit = record { answer = tt; exit = exit }

-- document 01's example with its sale numbered wrongly
abbrev wrong_file : List ℕ
wrong_file = file_of (at 194 "000004" sale)

-- the numbers of a sheet of version 1, behind its version
abbrev numbers_one : ℕ → ℕ → List ℕ
numbers_one edition net = edition ∷ 20240229 ∷ 1 ∷ 1 ∷ 1 ∷ 10000 ∷ 250 ∷ net ∷ []

pub record CFiles (κ : Lft) : Type 0 where
  -- `lossivurn_card_check`: the row left as it was; an edition cut down to a byte, 258 to 2
  pub card_check : OneOutcome (λ κs s. s.1.1.0.now) CardCheckSays
  pub card_check_unwritten : TellsOutcome (CardCheckSays (two κ)) (under 2 card_file (room 20)) (left (under 2 card_file sale_row)) (left (under 2 card_file (room 20)))
  pub card_check_258 : TellsOutcome (CardCheckSays (two κ)) (under 258 card_file (room 20)) (left (under 258 card_file (refused_row 1 0 0 17))) (left (under 258 card_file sale_row))
  -- `lossivurn_card_mask`: no masking; a refused file's output written; a refusal not told
  pub card_mask : OneRowAndOutput (λ κs s. s.1.1.1.0.now) (λ κs s. s.1.1.0.now) CardMaskSays
  pub card_mask_none :
      TellsOutcome (CardMaskSays (three κ)) (into_under 2 card_file (room (length card_file)) (room 20))
      (left (into_under 2 card_file (file_of masked_sale) sale_row))
      (left (into_under 2 card_file card_file sale_row))
  pub card_mask_refused :
      TellsOutcome (CardMaskSays (three κ)) (into_under 2 wrong_file (room (length card_file)) (room 20))
      (left (into_under 2 wrong_file (room (length card_file)) (refused_row 9 3 194 17)))
      (left (into_under 2 wrong_file (file_of masked_sale) (refused_row 9 3 194 17)))
  pub card_mask_not_told :
      TellsOutcome (CardMaskSays (three κ)) (into_under 2 card_file (room 201) (room 20))
      (left (into_under 2 card_file (room 201) (refused_row 2 0 0 17)))
      (left (into_under 2 card_file (room 201) sale_row))
  -- `lossivurn_card_sheet`: another edition in the sheet; 80 bytes enough
  pub card_sheet : OneRowAndOutput (λ κs s. s.1.1.1.0.now) (λ κs s. s.1.1.0.now) CardSheetSays
  pub card_sheet_edition :
      TellsOutcome (CardSheetSays (three κ)) (into_under 2 card_file (room 81) (room 20))
      (left (into_under 2 card_file (bytes_of (day_sheet 2)) sale_row))
      (left (into_under 2 card_file (bytes_of (day_sheet 1)) sale_row))
  pub card_sheet_short :
      TellsOutcome (CardSheetSays (three κ)) (into_under 2 card_file (room 80) (room 20))
      (left (into_under 2 card_file (room 80) (refused_row 2 0 0 17)))
      (left (into_under 2 card_file (take 80 (bytes_of (day_sheet 2))) sale_row))
  -- `lossivurn_payroll_check`: the row left as it was; a refused file told with numbers
  pub payroll_check : OneOutcome (λ κs s. s.1.0.now) PayrollCheckSays
  pub payroll_check_unwritten : TellsOutcome (PayrollCheckSays (two κ)) (asked payroll_file (room 8)) (left (asked payroll_file payment_row)) (left (asked payroll_file (room 8)))
  pub payroll_check_refused :
      TellsOutcome (PayrollCheckSays (two κ)) (asked (payroll_file_of (at 9 "00002" payment)) (room 8))
      (left (asked (payroll_file_of (at 9 "00002" payment)) (refused_row 9 3 9 5)))
      (left (asked (payroll_file_of (at 9 "00002" payment)) (9 ∷ 3 ∷ 9 ∷ 2 ∷ 1 ∷ 0 ∷ 0 ∷ 0 ∷ [])))
  -- `lossivurn_sale_field`: the card's place told; a place counted from 1
  pub sale_field : OneOutcome (λ κs s. s.1.1.0.now) SaleFieldSays
  pub sale_field_card : TellsOutcome (SaleFieldSays (two κ)) (numbered 13 (room 5)) (left (numbered 13 (refused_row 14 0 0 2))) (left (numbered 13 (0 ∷ 0 ∷ 0 ∷ 87 ∷ 19 ∷ [])))
  pub sale_field_from_one : TellsOutcome (SaleFieldSays (two κ)) (numbered 12 (room 5)) (left (numbered 12 (0 ∷ 0 ∷ 0 ∷ 76 ∷ 11 ∷ []))) (left (numbered 12 (0 ∷ 0 ∷ 0 ∷ 77 ∷ 11 ∷ [])))
  -- `lossivurn_sheet_read`: the row left as it was; a refused sheet's numbers told
  pub sheet_read_lem : OneOutcome (λ κs s. s.1.0.now) SheetReadSays
  pub sheet_read_unwritten : TellsOutcome (SheetReadSays (two κ)) (asked (bytes_of both_sets) (room 17)) (left (asked (bytes_of both_sets) (0 ∷ 0 ∷ 0 ∷ sets_row))) (left (asked (bytes_of both_sets) (room 17)))
  pub sheet_read_refused :
      TellsOutcome (SheetReadSays (two κ)) (asked (bytes_of (sheet_of 2 9751)) (room 17))
      (left (asked (bytes_of (sheet_of 2 9751)) (refused_row 17 0 0 14)))
      (left (asked (bytes_of (sheet_of 2 9751)) (17 ∷ 0 ∷ 0 ∷ 1 ∷ numbers_one 2 9751 ++ replicate 5 0)))
  -- `lossivurn_sheet_write_1`: the output left as it was; a refusal not told
  pub sheet_write_1 : OneRowAndOutput (λ κs s. s.1.1.0.now) (λ κs s. s.1.0.now) SheetWrite1Says
  pub sheet_write_1_unwritten :
      TellsOutcome (SheetWrite1Says (three κ)) (into (numbers_one 2 9750) (room 52) (room 3))
      (left (into (numbers_one 2 9750) (bytes_of (sheet_of 2 9750)) (replicate 3 0)))
      (left (into (numbers_one 2 9750) (room 52) (replicate 3 0)))
  pub sheet_write_1_not_told :
      TellsOutcome (SheetWrite1Says (three κ)) (into (numbers_one 3 9750) (room 51) (room 3))
      (left (into (numbers_one 3 9750) (room 51) (refused_row 17 0 0 0)))
      (left (into (numbers_one 3 9750) (room 51) (replicate 3 0)))
  -- `lossivurn_sheet_write_2`: the sets exchanged; 80 bytes enough
  pub sheet_write_2 : OneRowAndOutput (λ κs s. s.1.1.0.now) (λ κs s. s.1.0.now) SheetWrite2Says
  pub sheet_write_2_exchanged :
      TellsOutcome (SheetWrite2Says (three κ)) (into (drop 1 sets_row) (room 81) (room 3))
      (left (into (drop 1 sets_row) (bytes_of both_sets) (replicate 3 0)))
      (left (into (drop 1 sets_row) (bytes_of (split_sheet 1 settled forecasts)) (replicate 3 0)))
  pub sheet_write_2_short :
      TellsOutcome (SheetWrite2Says (three κ)) (into (drop 1 sets_row) (room 80) (room 3))
      (left (into (drop 1 sets_row) (room 80) (refused_row 2 0 0 0)))
      (left (into (drop 1 sets_row) (take 80 (bytes_of both_sets)) (replicate 3 0)))
  -- `lossivurn_sheet_convert`: the same version again; what is not readable told as converted
  pub sheet_convert : OneRowAndOutput (λ κs s. s.1.1.0.now) (λ κs s. s.1.0.now) SheetConvertSays
  pub sheet_convert_same :
      TellsOutcome (SheetConvertSays (three κ)) (into (bytes_of (sheet_of 2 9750)) (room 81) (room 3))
      (left (into (bytes_of (sheet_of 2 9750)) (bytes_of (split_sheet 0 no_totals settled)) (replicate 3 0)))
      (left (into (bytes_of (sheet_of 2 9750)) (bytes_of (sheet_of 2 9750) ++ room 29) (replicate 3 0)))
  pub sheet_convert_unreadable :
      TellsOutcome (SheetConvertSays (three κ)) (into (bytes_of (sheet_of 2 9751)) (room 81) (room 3))
      (left (into (bytes_of (sheet_of 2 9751)) (room 81) (refused_row 17 0 0 0)))
      (left (into (bytes_of (sheet_of 2 9751)) (room 81) (replicate 3 0)))
