-- What the contracts of the masked copy, the field question and a file's day sheet are held to. Behind a function's name: the wrong programs that are ruled out.
use Rattle.std.specs.Prelude.{ℕ, List, [], ◌++◌, length, take, Err, Ok, Some}
use Rattle.text.specs.Literal.{ascii}
use Rattle.refusal.specs.declared.Cause.TheVariants.{EditionUnknown, EditionRetired, OutputTooShort, SequenceWrong, KindUnknown, WrongWidth, FieldNotOffered}
use Rattle.sheet_numbers.specs.declared.sheet.Sheet.{Sheet}
use Rattle.sheet_numbers.specs.declared.sheet.Sheet.TheVariants.{Version2}
use Rattle.day_sheet.specs.Sheet.{bytes_of}
use Rattle.sheet_numbers.specs.Converted.{converted}
use Rattle.totals.specs.declared.two_sets.TwoSets.{TwoSets}
use Rattle.totals.specs.Amounts.{no_totals}
use Rattle.totals.specs.TwoSets.{sets_of}
use Rattle.answers.specs.Totals.{amounts, totals_of}
use Rattle.answers.specs.CardRun.{numbers as numbers_of, refusal, one_sale, one_forecast, accepted}
use Rattle.demands.specs.ExampleFile.{file_of}
use Rattle.answers.specs.Samples.{at, sale, credit, card_file, room, blank_card}
use Rattle.card_run.specs.declared.answer.Accepted.{Accepted}
use base.Fml.{Lft}
use Rattle.card_mask.specs.contracts.mask_lines as MaskLines
use Rattle.card_mask.specs.contracts.mask as Mask
use Rattle.sale_field.specs.contracts.field_answer as FieldAnswer
use Rattle.sale_field.specs.contracts.field as Field
use Rattle.sale_field.specs.contracts.place as Place
use Rattle.card_sheet.specs.contracts.sheet_from as SheetFrom
use Rattle.card_sheet.specs.contracts.sheet_of as SheetOf
use borrow.Fn.Read.{r_last}
use Rattle.answers.specs.Held.{Claim, fact_of, logic, memory, run, OneAnswer, OnePart, OneOutcome, Tells, TellsOutcome, lent, lent_mut, part, one, two}

-- what each contract says
abbrev MaskLinesSays : Claim MaskLines.ended
MaskLinesSays κs a r s = fact_of ((MaskLines.clauses logic memory run κs a).ensures tt r s) (r_last _)

abbrev MaskSays : Claim Mask.ended
MaskSays κs a r s = fact_of ((Mask.clauses logic memory run κs a).ensures tt r s) (r_last _)

abbrev FieldAnswerSays : Claim FieldAnswer.ended
FieldAnswerSays κs a r s = fact_of ((FieldAnswer.clauses logic memory run κs a).ensures tt r s) (r_last _)

abbrev FieldSays : Claim Field.ended
FieldSays κs a r s = fact_of ((Field.clauses logic memory run κs a).ensures tt r s) (r_last _)

abbrev PlaceSays : Claim Place.ended
PlaceSays κs a r s = fact_of ((Place.clauses logic memory run κs a).ensures tt r s) (r_last _)

abbrev SheetFromSays : Claim SheetFrom.ended
SheetFromSays κs a r s = fact_of ((SheetFrom.clauses logic memory run κs a).ensures tt r s) (r_last _)

abbrev SheetOfSays : Claim SheetOf.ended
SheetOfSays κs a r s = fact_of ((SheetOf.clauses logic memory run κs a).ensures tt r s) (r_last _)

-- document 01's example with its card masked
abbrev pub masked_sale : List ℕ
masked_sale = at 88 "000123456******3456" sale

-- a day sheet under an edition with a split and these sets, and the example's
abbrev sheet_with : ℕ → ℕ → TwoSets → Sheet
sheet_with edition split sets = Version2 (record { edition = edition; date = 20240229; movement = 1; batches = 1 }) split sets

abbrev pub day_sheet : ℕ → Sheet
day_sheet edition = sheet_with edition 1 one_sale

-- the example's numbers
abbrev numbers : Accepted
numbers = numbers_of 5 1 one_sale

-- with its sale as forecast and when paid, and both of that in one set
abbrev two_sales : TwoSets
two_sales = sets_of one_forecast.forecast one_sale.settled

abbrev both_settled : TwoSets
both_settled = sets_of no_totals (totals_of 2 (amounts 20000 500 19500))

pub record CardMask (κ : Lft) : Type 0 where
  -- `mask_lines`: the unfinished record counted; nothing masked
  pub mask_lines : OneOutcome (λ κs s. s.0.now) MaskLinesSays
  pub lines_unfinished :
      TellsOutcome (MaskLinesSays (one κ)) (lent_mut (sale ++ ascii "\r\nCV"), tt)
      (record { answer = 201; exit = (lent_mut (masked_sale ++ ascii "\r\nCV"), tt) })
      (record { answer = 203; exit = (lent_mut (masked_sale ++ ascii "\r\nCV"), tt) })
  pub lines_unmasked :
      TellsOutcome (MaskLinesSays (one κ)) (lent_mut (sale ++ ascii "\r\n"), tt)
      (record { answer = 201; exit = (lent_mut (masked_sale ++ ascii "\r\n"), tt) })
      (record { answer = 201; exit = (lent_mut (sale ++ ascii "\r\n"), tt) })
  -- of an adjustment: its card unmasked; masked where a sale's card stands; a blank card masked
  pub lines_adjustment :
      TellsOutcome (MaskLinesSays (one κ)) (lent_mut (credit ++ ascii "\r\n"), tt)
      (record { answer = 195; exit = (lent_mut (at 163 "000123456******3456" credit ++ ascii "\r\n"), tt) })
      (record { answer = 195; exit = (lent_mut (credit ++ ascii "\r\n"), tt) })
  pub lines_as_sale :
      TellsOutcome (MaskLinesSays (one κ)) (lent_mut (at 88 "0001234567890123456" credit ++ ascii "\r\n"), tt)
      (record { answer = 195; exit = (lent_mut (at 163 "000123456******3456" (at 88 "0001234567890123456" credit) ++ ascii "\r\n"), tt) })
      (record { answer = 195; exit = (lent_mut (at 88 "000123456******3456" credit ++ ascii "\r\n"), tt) })
  pub lines_blank_card :
      TellsOutcome (MaskLinesSays (one κ)) (lent_mut (at 163 blank_card credit ++ ascii "\r\n"), tt)
      (record { answer = 195; exit = (lent_mut (at 163 blank_card credit ++ ascii "\r\n"), tt) })
      (record { answer = 195; exit = (lent_mut (at 163 "      *********    " credit ++ ascii "\r\n"), tt) })
  -- `mask`: no masking; a refused file's output written; a shorter output filled as far as it goes; 2 before 1, and before 22; a file under edition 1 masked
  pub mask : OneOutcome (λ κs s. s.1.1.0.now) MaskSays
  pub mask_none :
      TellsOutcome (MaskSays (two κ)) (2, (lent card_file, (lent_mut (room (length card_file)), tt)))
      (record { answer = accepted 5 1 one_sale; exit = (2, (lent card_file, (lent_mut (file_of masked_sale), tt))) })
      (record { answer = accepted 5 1 one_sale; exit = (2, (lent card_file, (lent_mut card_file, tt))) })
  pub mask_refused :
      TellsOutcome (MaskSays (two κ)) (2, (lent (file_of (at 194 "000004" sale)), (lent_mut (room (length card_file)), tt)))
      (record { answer = Some (Err (refusal SequenceWrong 3 194)); exit = (2, (lent (file_of (at 194 "000004" sale)), (lent_mut (room (length card_file)), tt))) })
      (record { answer = Some (Err (refusal SequenceWrong 3 194)); exit = (2, (lent (file_of (at 194 "000004" sale)), (lent_mut (file_of masked_sale), tt))) })
  pub mask_short :
      TellsOutcome (MaskSays (two κ)) (2, (lent card_file, (lent_mut (room 201), tt)))
      (record { answer = Some (Err (refusal OutputTooShort 0 0)); exit = (2, (lent card_file, (lent_mut (room 201), tt))) })
      (record { answer = Some (Err (refusal OutputTooShort 0 0)); exit = (2, (lent card_file, (lent_mut (take 201 card_file), tt))) })
  pub mask_order :
      TellsOutcome (MaskSays (two κ)) (3, (lent card_file, (lent_mut (room 201), tt)))
      (record { answer = Some (Err (refusal EditionUnknown 0 0)); exit = (3, (lent card_file, (lent_mut (room 201), tt))) })
      (record { answer = Some (Err (refusal OutputTooShort 0 0)); exit = (3, (lent card_file, (lent_mut (room 201), tt))) })
  pub mask_order_retired :
      TellsOutcome (MaskSays (two κ)) (1, (lent card_file, (lent_mut (room 201), tt)))
      (record { answer = Some (Err (refusal EditionRetired 0 0)); exit = (1, (lent card_file, (lent_mut (room 201), tt))) })
      (record { answer = Some (Err (refusal OutputTooShort 0 0)); exit = (1, (lent card_file, (lent_mut (room 201), tt))) })
  pub mask_retired :
      TellsOutcome (MaskSays (two κ)) (1, (lent card_file, (lent_mut (room (length card_file)), tt)))
      (record { answer = Some (Err (refusal EditionRetired 0 0)); exit = (1, (lent card_file, (lent_mut (room (length card_file)), tt))) })
      (record { answer = accepted 5 1 one_sale; exit = (1, (lent card_file, (lent_mut (file_of masked_sale), tt))) })
  -- `field_answer`: the card offered; a longer record taken; an adjustment taken; 14 before 4
  pub field_answer : OneAnswer FieldAnswerSays
  pub field_card : Tells (FieldAnswerSays (one κ)) (lent sale, (13, tt)) (Err (refusal FieldNotOffered 0 0)) (Ok tt)
  pub field_longer : Tells (FieldAnswerSays (one κ)) (lent (at 200 "0" sale), (1, tt)) (Err (refusal WrongWidth 1 0)) (Ok tt)
  pub field_adjustment : Tells (FieldAnswerSays (one κ)) (lent credit, (1, tt)) (Err (refusal KindUnknown 1 1)) (Ok tt)
  pub field_order : Tells (FieldAnswerSays (one κ)) (lent (ascii "L0"), (13, tt)) (Err (refusal KindUnknown 1 1)) (Err (refusal FieldNotOffered 0 0))
  -- `field`: the card handed back; the field behind it; other bytes with the same content
  pub field : OnePart FieldSays
  pub field_is_card : Tells (FieldSays (one κ)) (lent sale, (13, tt)) (part 0 []) (part 87 (ascii "0001234567890123456"))
  pub field_behind : Tells (FieldSays (one κ)) (lent sale, (12, tt)) (part 76 (ascii "00000009750")) (part 87 (ascii "0001234567890123456"))
  pub field_elsewhere : Tells (FieldSays (one κ)) (lent sale, (14, tt)) (part 106 (ascii "00")) (part 108 (ascii "00"))
  -- `place`: the card's own; counted from 1; the last position
  pub place : OneAnswer PlaceSays
  pub place_card : Tells (PlaceSays (one κ)) (lent sale, (13, tt)) 0 87
  pub place_from_one : Tells (PlaceSays (one κ)) (lent sale, (12, tt)) 76 77
  pub place_last : Tells (PlaceSays (one κ)) (lent sale, (12, tt)) 76 87
  -- `sheet_from`: always edition 2; the records for the batches; the split as 0, also where nothing is forecast; the forecast added into the settled places; the forecast left
  -- out; the sets exchanged; version 1
  pub sheet_from_lem : OneAnswer SheetFromSays
  pub sheet_edition_lem : Tells (SheetFromSays tt) (3, (numbers, tt)) (day_sheet 3) (day_sheet 2)
  pub sheet_records : Tells (SheetFromSays tt) (2, (numbers, tt)) (day_sheet 2) (Version2 (record { edition = 2; date = 20240229; movement = 1; batches = 5 }) 1 one_sale)
  pub sheet_split : Tells (SheetFromSays tt) (2, (numbers, tt)) (day_sheet 2) (sheet_with 2 0 one_sale)
  pub sheet_added : Tells (SheetFromSays tt) (2, (numbers_of 6 1 two_sales, tt)) (sheet_with 2 1 two_sales) (sheet_with 2 1 both_settled)
  pub sheet_settled : Tells (SheetFromSays tt) (2, (numbers_of 6 1 two_sales, tt)) (sheet_with 2 1 two_sales) (day_sheet 2)
  pub sheet_exchanged : Tells (SheetFromSays tt) (2, (numbers, tt)) (day_sheet 2) (sheet_with 2 1 one_forecast)
  pub sheet_version : Tells (SheetFromSays tt) (2, (numbers, tt)) (day_sheet 2) (converted (day_sheet 2))
  -- `sheet_of`: another edition in the sheet; a sheet under edition 1; 2 before 22; a byte past 81 changed; a refused file's output written; 80 bytes enough, and 52; the split as
  -- 0; a forecast in the settled places; version 1 written
  pub sheet_of_lem : OneOutcome (λ κs s. s.1.1.0.now) SheetOfSays
  pub sheet_of_edition :
      TellsOutcome (SheetOfSays (two κ)) (2, (lent card_file, (lent_mut (room 81), tt)))
      (record { answer = accepted 5 1 one_sale; exit = (2, (lent card_file, (lent_mut (bytes_of (day_sheet 2)), tt))) })
      (record { answer = accepted 5 1 one_sale; exit = (2, (lent card_file, (lent_mut (bytes_of (day_sheet 1)), tt))) })
  pub sheet_of_retired :
      TellsOutcome (SheetOfSays (two κ)) (1, (lent card_file, (lent_mut (room 81), tt)))
      (record { answer = Some (Err (refusal EditionRetired 0 0)); exit = (1, (lent card_file, (lent_mut (room 81), tt))) })
      (record { answer = accepted 5 1 one_sale; exit = (1, (lent card_file, (lent_mut (bytes_of (day_sheet 1)), tt))) })
  pub sheet_of_order :
      TellsOutcome (SheetOfSays (two κ)) (1, (lent card_file, (lent_mut (room 80), tt)))
      (record { answer = Some (Err (refusal EditionRetired 0 0)); exit = (1, (lent card_file, (lent_mut (room 80), tt))) })
      (record { answer = Some (Err (refusal OutputTooShort 0 0)); exit = (1, (lent card_file, (lent_mut (room 80), tt))) })
  pub sheet_of_past :
      TellsOutcome (SheetOfSays (two κ)) (2, (lent card_file, (lent_mut (room 82), tt)))
      (record { answer = accepted 5 1 one_sale; exit = (2, (lent card_file, (lent_mut (bytes_of (day_sheet 2) ++ room 1), tt))) })
      (record { answer = accepted 5 1 one_sale; exit = (2, (lent card_file, (lent_mut (bytes_of (day_sheet 2) ++ ascii "\n"), tt))) })
  pub sheet_of_refused :
      TellsOutcome (SheetOfSays (two κ)) (2, (lent (file_of (at 194 "000004" sale)), (lent_mut (room 81), tt)))
      (record { answer = Some (Err (refusal SequenceWrong 3 194)); exit = (2, (lent (file_of (at 194 "000004" sale)), (lent_mut (room 81), tt))) })
      (record { answer = Some (Err (refusal SequenceWrong 3 194)); exit = (2, (lent (file_of (at 194 "000004" sale)), (lent_mut (bytes_of (day_sheet 2)), tt))) })
  pub sheet_of_short :
      TellsOutcome (SheetOfSays (two κ)) (2, (lent card_file, (lent_mut (room 80), tt)))
      (record { answer = Some (Err (refusal OutputTooShort 0 0)); exit = (2, (lent card_file, (lent_mut (room 80), tt))) })
      (record { answer = accepted 5 1 one_sale; exit = (2, (lent card_file, (lent_mut (take 80 (bytes_of (day_sheet 2))), tt))) })
  pub sheet_of_short_one :
      TellsOutcome (SheetOfSays (two κ)) (2, (lent card_file, (lent_mut (room 52), tt)))
      (record { answer = Some (Err (refusal OutputTooShort 0 0)); exit = (2, (lent card_file, (lent_mut (room 52), tt))) })
      (record { answer = accepted 5 1 one_sale; exit = (2, (lent card_file, (lent_mut (bytes_of (converted (day_sheet 2))), tt))) })
  pub sheet_of_split :
      TellsOutcome (SheetOfSays (two κ)) (2, (lent card_file, (lent_mut (room 81), tt)))
      (record { answer = accepted 5 1 one_sale; exit = (2, (lent card_file, (lent_mut (bytes_of (day_sheet 2)), tt))) })
      (record { answer = accepted 5 1 one_sale; exit = (2, (lent card_file, (lent_mut (bytes_of (sheet_with 2 0 one_sale)), tt))) })
  pub sheet_of_forecast :
      TellsOutcome (SheetOfSays (two κ)) (2, (lent (file_of (at 44 "0" sale)), (lent_mut (room 81), tt)))
      (record { answer = accepted 5 1 one_forecast; exit = (2, (lent (file_of (at 44 "0" sale)), (lent_mut (bytes_of (sheet_with 2 1 one_forecast)), tt))) })
      (record { answer = accepted 5 1 one_forecast; exit = (2, (lent (file_of (at 44 "0" sale)), (lent_mut (bytes_of (day_sheet 2)), tt))) })
