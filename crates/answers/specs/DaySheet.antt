-- What the contracts of the day sheet and of an edition are held to. Behind a function's name: the wrong programs that are ruled out.
use Rattle.std.specs.Prelude.{ℕ, true, false, List, [], ◌∷◌, ◌++◌, take, Err, None, Ok, Some}
use Rattle.text.specs.Literal.{ascii}
use Rattle.refusal.specs.declared.Cause.{Cause}
use Rattle.refusal.specs.declared.Cause.TheVariants.{EditionUnknown, EditionRetired, OutputTooShort, NotADaySheet, SheetVersionUnknown, SheetNumbersNotAllowed}
use Rattle.totals.specs.declared.amounts.Totals.{Totals}
use Rattle.totals.specs.Amounts.{no_totals}
use Rattle.totals.specs.TwoSets.{sets_of}
use Rattle.day_sheet.specs.declared.number.Form.TheVariants.{Bytes, Digits}
use Rattle.day_sheet.specs.declared.layout.Version.TheVariants.{One, Two}
use Rattle.sheet_numbers.specs.declared.sheet.Heading.{Heading}
use Rattle.sheet_numbers.specs.declared.sheet.Sheet.{Sheet}
use Rattle.sheet_numbers.specs.declared.sheet.Sheet.TheVariants.{Version1, Version2}
use Rattle.day_sheet.specs.Sheet.{bytes_of}
use Rattle.answers.specs.Totals.{amounts, totals_of}
use Rattle.answers.specs.CardRun.{refusal}
use Rattle.answers.specs.Samples.{at, room}
use base.Fml.{Lft}
use Rattle.day_sheet.specs.contracts.number.Form.put as Put
use Rattle.day_sheet.specs.contracts.layout.Version.width as Width
use Rattle.day_sheet.specs.contracts.layout.version_of as VersionOf
use Rattle.sheet_numbers.specs.contracts.sheet.Sheet.edition as SheetEdition
use Rattle.sheet_numbers.specs.contracts.sheet.Sheet.converted as Converted
use Rattle.sheet_numbers.specs.contracts.sheet.Sheet.is_allowed as IsAllowed
use Rattle.day_sheet.specs.contracts.row.row as RowOf
use Rattle.day_sheet.specs.contracts.row.totals_from as TotalsFrom
use Rattle.day_sheet.specs.contracts.row.sheet_of as SheetOfRow
use Rattle.day_sheet.specs.contracts.reader.read as ReadSheet
use Rattle.day_sheet.specs.contracts.writer.write as WriteSheet
use Rattle.day_sheet.specs.contracts.converter.convert as ConvertSheet
use Rattle.edition.specs.contracts.known.is_retired as IsRetired
use Rattle.edition.specs.contracts.known.fault_of as FaultOfEdition
use Rattle.edition.specs.contracts.edition_of as EditionOf
use borrow.Fn.Read.{r_last}
use Rattle.answers.specs.Held.{Claim, fact_of, logic, memory, run, OneAnswer, OneOutcome, Tells, TellsOutcome, lent, lent_mut, one, two}
use Rattle.refusal.specs.Fault.{at as fault_at, nothing}
use Rattle.day_sheet.specs.Writing.{SheetWritten}

-- what each contract says
abbrev PutSays : Claim Put.ended
PutSays κs a r s = fact_of ((Put.clauses logic memory run κs a).ensures tt r s) (r_last _)

abbrev WidthSays : Claim Width.ended
WidthSays κs a r s = fact_of ((Width.clauses logic memory run κs a).ensures tt r s) (r_last _)

abbrev VersionOfSays : Claim VersionOf.ended
VersionOfSays κs a r s = fact_of ((VersionOf.clauses logic memory run κs a).ensures tt r s) (r_last _)

abbrev SheetEditionSays : Claim SheetEdition.ended
SheetEditionSays κs a r s = fact_of ((SheetEdition.clauses logic memory run κs a).ensures tt r s) (r_last _)

abbrev ConvertedSays : Claim Converted.ended
ConvertedSays κs a r s = fact_of ((Converted.clauses logic memory run κs a).ensures tt r s) (r_last _)

abbrev IsAllowedSays : Claim IsAllowed.ended
IsAllowedSays κs a r s = fact_of ((IsAllowed.clauses logic memory run κs a).ensures tt r s) (r_last _)

abbrev RowOfSays : Claim RowOf.ended
RowOfSays κs a r s = fact_of ((RowOf.clauses logic memory run κs a).ensures tt r s) (r_last _)

abbrev TotalsFromSays : Claim TotalsFrom.ended
TotalsFromSays κs a r s = fact_of ((TotalsFrom.clauses logic memory run κs a).ensures tt r s) (r_last _)

abbrev SheetOfRowSays : Claim SheetOfRow.ended
SheetOfRowSays κs a r s = fact_of ((SheetOfRow.clauses logic memory run κs a).ensures tt r s) (r_last _)

abbrev ReadSheetSays : Claim ReadSheet.ended
ReadSheetSays κs a r s = fact_of ((ReadSheet.clauses logic memory run κs a).ensures tt r s) (r_last _)

abbrev WriteSheetSays : Claim WriteSheet.ended
WriteSheetSays κs a r s = fact_of ((WriteSheet.clauses logic memory run κs a).ensures tt r s) (r_last _)

abbrev ConvertSheetSays : Claim ConvertSheet.ended
ConvertSheetSays κs a r s = fact_of ((ConvertSheet.clauses logic memory run κs a).ensures tt r s) (r_last _)

abbrev IsRetiredSays : Claim IsRetired.ended
IsRetiredSays κs a r s = fact_of ((IsRetired.clauses logic memory run κs a).ensures tt r s) (r_last _)

abbrev FaultOfEditionSays : Claim FaultOfEdition.ended
FaultOfEditionSays κs a r s = fact_of ((FaultOfEdition.clauses logic memory run κs a).ensures tt r s) (r_last _)

abbrev EditionOfSays : Claim EditionOf.ended
EditionOfSays κs a r s = fact_of ((EditionOf.clauses logic memory run κs a).ensures tt r s) (r_last _)

-- a sheet of version 1 of an edition with a net
abbrev heading : ℕ → Heading
heading edition = record { edition = edition; date = 20240229; movement = 1; batches = 1 }

abbrev pub sheet_of : ℕ → ℕ → Sheet
sheet_of edition net = Version1 (heading edition) (totals_of 1 (amounts 10000 250 net))

-- a sheet of version 2 with a split and two sets; the sets of two forecasts and one settled sale, and what they come to together
abbrev pub split_sheet : ℕ → Totals → Totals → Sheet
split_sheet split forecast settled = Version2 (heading 2) split (sets_of forecast settled)

abbrev pub forecasts : Totals
forecasts = totals_of 2 (amounts 20000 500 19500)

abbrev pub settled : Totals
settled = totals_of 1 (amounts 10000 250 9750)

abbrev pub both_sets : Sheet
both_sets = split_sheet 1 forecasts settled

abbrev added : Sheet
added = Version1 (heading 2) (totals_of 3 (amounts 30000 750 29250))

-- the row of both sets
abbrev pub sets_row : List ℕ
sets_row = 2 ∷ 2 ∷ 20240229 ∷ 1 ∷ 1 ∷ 1 ∷ 10000 ∷ 250 ∷ 9750 ∷ 1 ∷ 2 ∷ 20000 ∷ 500 ∷ 19500 ∷ []

-- and with the sets exchanged
abbrev pub exchanged_row : List ℕ
exchanged_row = 2 ∷ 2 ∷ 20240229 ∷ 1 ∷ 1 ∷ 2 ∷ 20000 ∷ 500 ∷ 19500 ∷ 1 ∷ 1 ∷ 10000 ∷ 250 ∷ 9750 ∷ []

-- both of edition 1
abbrev old_sets : Sheet
old_sets = Version2 (heading 1) 1 (sets_of forecasts settled)

abbrev old_added : Sheet
old_added = Version1 (heading 1) (totals_of 3 (amounts 30000 750 29250))

-- the largest totals of a set, and the least that make them too large
abbrev largest : Totals
largest = totals_of 1 (amounts 99999999999999999 0 99999999999999999)

abbrev least : Totals
least = totals_of 1 (amounts 1 0 1)

-- a refusal of writing
abbrev refused : Cause → SheetWritten
refused cause = Err (refusal cause 0 0)

pub record DaySheet (κ : Lft) : Type 0 where
  -- `Form::put`: low byte first; blanks for zeros
  pub puts : OneOutcome (λ κs s. s.1.1.0.now) PutSays
  pub put_low_first :
      TellsOutcome (PutSays (one κ)) (Bytes, (258, (lent_mut (room 2), tt)))
      (record { answer = tt; exit = (Bytes, (258, (lent_mut (1 ∷ 2 ∷ []), tt))) })
      (record { answer = tt; exit = (Bytes, (258, (lent_mut (2 ∷ 1 ∷ []), tt))) })
  pub put_blanks :
      TellsOutcome (PutSays (one κ)) (Digits, (42, (lent_mut (room 4), tt)))
      (record { answer = tt; exit = (Digits, (42, (lent_mut (ascii "0042"), tt))) })
      (record { answer = tt; exit = (Digits, (42, (lent_mut (ascii "  42"), tt))) })
  -- `Version::width`: one width for both
  pub width : OneAnswer WidthSays
  pub width_one : Tells (WidthSays tt) (One, tt) 52 81
  pub width_two : Tells (WidthSays tt) (Two, tt) 81 52
  -- `Sheet::version`: always version 1; version 2 where there is no forecast
  pub version : OneAnswer VersionOfSays
  pub version_one : Tells (VersionOfSays tt) (sheet_of 2 9750, tt) One Two
  pub version_two : Tells (VersionOfSays tt) (split_sheet 1 no_totals settled, tt) Two One
  -- `Sheet::edition`: the version told; the split told
  pub edition : OneAnswer SheetEditionSays
  pub edition_version : Tells (SheetEditionSays tt) (sheet_of 2 9750, tt) 2 1
  pub edition_split : Tells (SheetEditionSays tt) (both_sets, tt) 2 1
  -- `Sheet::converted`: the split told as known; all sales as forecast; the settled alone, and a forecast added twice
  pub converted : OneAnswer ConvertedSays
  pub converted_split : Tells (ConvertedSays tt) (sheet_of 2 9750, tt) (split_sheet 0 no_totals settled) (split_sheet 1 no_totals settled)
  pub converted_forecast : Tells (ConvertedSays tt) (sheet_of 2 9750, tt) (split_sheet 0 no_totals settled) (split_sheet 0 settled no_totals)
  pub converted_settled : Tells (ConvertedSays tt) (both_sets, tt) added (sheet_of 2 9750)
  pub converted_twice : Tells (ConvertedSays tt) (both_sets, tt) added (Version1 (heading 2) (totals_of 5 (amounts 50000 1250 48750)))
  -- `Sheet::is_allowed`: edition 3 allowed; edition 1 not; amounts that disagree allowed, and such as agree only in the sum of both sets; limits tested for each set and not for both; a
  -- split of 2 allowed; a split of 0 allowed with a forecast, of its count alone too; a known split refused where nothing is forecast
  pub is_allowed : OneAnswer IsAllowedSays
  pub allowed_edition : Tells (IsAllowedSays tt) (sheet_of 3 9750, tt) false true
  pub allowed_old : Tells (IsAllowedSays tt) (sheet_of 1 9750, tt) true false
  pub allowed_net : Tells (IsAllowedSays tt) (sheet_of 2 9751, tt) false true
  pub allowed_agree :
      Tells (IsAllowedSays tt) (split_sheet 1 (totals_of 1 (amounts 10000 250 9749)) (totals_of 1 (amounts 10000 250 9751)), tt) false true
  pub allowed_both : Tells (IsAllowedSays tt) (split_sheet 1 least largest, tt) false true
  pub allowed_count : Tells (IsAllowedSays tt) (split_sheet 1 settled (totals_of 999999 (amounts 0 0 0)), tt) false true
  pub allowed_split : Tells (IsAllowedSays tt) (split_sheet 2 forecasts settled, tt) false true
  pub allowed_unknown : Tells (IsAllowedSays tt) (split_sheet 0 forecasts settled, tt) false true
  pub allowed_unknown_count : Tells (IsAllowedSays tt) (split_sheet 0 (totals_of 1 (amounts 0 0 0)) settled, tt) false true
  pub allowed_none : Tells (IsAllowedSays tt) (split_sheet 1 no_totals settled, tt) true false
  -- `row`: the sets exchanged; the split of version 1 told as known
  pub row : OneAnswer RowOfSays
  pub row_exchanged : Tells (RowOfSays tt) (both_sets, tt) sets_row exchanged_row
  pub row_split : Tells (RowOfSays tt) (sheet_of 2 9750, tt) (1 ∷ 2 ∷ 20240229 ∷ 1 ∷ 1 ∷ 1 ∷ 10000 ∷ 250 ∷ 9750 ∷ 0 ∷ 0 ∷ 0 ∷ 0 ∷ 0 ∷ []) (1 ∷ 2 ∷ 20240229 ∷ 1 ∷ 1 ∷ 1 ∷ 10000 ∷ 250 ∷ 9750 ∷ 1 ∷ 0 ∷ 0 ∷ 0 ∷ 0 ∷ [])
  -- `totals_from`: read one place late; net read for gross
  pub totals_from : OneAnswer TotalsFromSays
  pub totals_late :
      Tells (TotalsFromSays (one κ)) (1, (lent (6 ∷ 7 ∷ 8 ∷ 9 ∷ 10 ∷ []), tt)) (record { sales = 7; amounts = record { gross = 8; discount = 9; net = 10 } })
      (record { sales = 8; amounts = record { gross = 9; discount = 10; net = 0 } })
  pub totals_exchanged :
      Tells (TotalsFromSays (one κ)) (1, (lent (6 ∷ 7 ∷ 8 ∷ 9 ∷ 10 ∷ []), tt)) (record { sales = 7; amounts = record { gross = 8; discount = 9; net = 10 } })
      (record { sales = 7; amounts = record { gross = 10; discount = 9; net = 8 } })
  -- `sheet_of`: the version that the first number tells; the sets exchanged
  pub sheet_of_lem : OneAnswer SheetOfRowSays
  pub sheet_of_version : Tells (SheetOfRowSays tt) (One, (sets_row, tt)) (sheet_of 2 9750) both_sets
  pub sheet_of_exchanged : Tells (SheetOfRowSays tt) (Two, (sets_row, tt)) both_sets (split_sheet 1 settled forecasts)
  -- `read`: every sheet refused; one sheet for all bytes; another version read; the mark not looked at; amounts that disagree read
  pub read : OneAnswer ReadSheetSays
  pub read_refused : Tells (ReadSheetSays (one κ)) (lent (bytes_of (sheet_of 2 9750)), tt) (Ok (sheet_of 2 9750)) (Err (refusal SheetNumbersNotAllowed 0 0))
  pub read_one_sheet : Tells (ReadSheetSays (one κ)) (lent [], tt) (Err (refusal NotADaySheet 0 0)) (Ok (sheet_of 2 9750))
  pub read_mark : Tells (ReadSheetSays (one κ)) (lent (at 1 "d" (bytes_of (sheet_of 2 9750))), tt) (Err (refusal NotADaySheet 0 0)) (Ok (sheet_of 2 9750))
  pub read_disagreeing : Tells (ReadSheetSays (one κ)) (lent (bytes_of (sheet_of 2 9751)), tt) (Err (refusal SheetNumbersNotAllowed 0 0)) (Ok (sheet_of 2 9751))
  -- a sheet of edition 1 refused, in version 1 and in version 2, or read as one of edition 2
  pub read_old : Tells (ReadSheetSays (one κ)) (lent (bytes_of (sheet_of 1 9750)), tt) (Ok (sheet_of 1 9750)) (Err (refusal EditionRetired 0 0))
  pub read_old_two : Tells (ReadSheetSays (one κ)) (lent (bytes_of old_sets), tt) (Ok old_sets) (Err (refusal EditionRetired 0 0))
  pub read_old_edition : Tells (ReadSheetSays (one κ)) (lent (bytes_of (sheet_of 1 9750)), tt) (Ok (sheet_of 1 9750)) (Ok (sheet_of 2 9750))
  -- 52 bytes with version 2 taken, and 81 with version 1; a sheet of version 2 refused, its sets exchanged, both of them added; 80 bytes of it taken; a split of 2 taken, and
  -- limits not tested for both
  pub read_version : Tells (ReadSheetSays (one κ)) (lent (at 5 "\u{2}" (bytes_of (sheet_of 2 9750))), tt) (Err (refusal SheetVersionUnknown 0 0)) (Ok (sheet_of 2 9750))
  pub read_version_one : Tells (ReadSheetSays (one κ)) (lent (at 5 "\u{1}" (bytes_of both_sets)), tt) (Err (refusal SheetVersionUnknown 0 0)) (Ok both_sets)
  pub read_two : Tells (ReadSheetSays (one κ)) (lent (bytes_of both_sets), tt) (Ok both_sets) (Err (refusal SheetVersionUnknown 0 0))
  pub read_exchanged : Tells (ReadSheetSays (one κ)) (lent (bytes_of both_sets), tt) (Ok both_sets) (Ok (split_sheet 1 settled forecasts))
  pub read_added : Tells (ReadSheetSays (one κ)) (lent (bytes_of both_sets), tt) (Ok both_sets) (Ok added)
  pub read_short : Tells (ReadSheetSays (one κ)) (lent (take 80 (bytes_of both_sets)), tt) (Err (refusal NotADaySheet 0 0)) (Ok both_sets)
  pub read_split : Tells (ReadSheetSays (one κ)) (lent (at 53 "\u{2}" (bytes_of both_sets)), tt) (Err (refusal SheetNumbersNotAllowed 0 0)) (Ok both_sets)
  pub read_both :
      Tells (ReadSheetSays (one κ)) (lent (bytes_of (split_sheet 1 least largest)), tt) (Err (refusal SheetNumbersNotAllowed 0 0)) (Ok (split_sheet 1 least largest))
  -- `write`: every sheet refused; a byte past 52 changed, and past 81; 2 before 17, in both versions; a shorter output filled as far as it goes; 80 bytes enough for version
  -- 2; the split as 0; the sets exchanged; the forecast's count low byte first
  pub write : OneOutcome (λ κs s. s.1.0.now) WriteSheetSays
  pub write_refused :
      TellsOutcome (WriteSheetSays (one κ)) (sheet_of 2 9750, (lent_mut (room 52), tt))
      (record { answer = (Ok tt); exit = (sheet_of 2 9750, (lent_mut (bytes_of (sheet_of 2 9750)), tt)) })
      (record { answer = refused SheetNumbersNotAllowed; exit = (sheet_of 2 9750, (lent_mut (room 52), tt)) })
  pub write_past :
      TellsOutcome (WriteSheetSays (one κ)) (sheet_of 2 9750, (lent_mut (room 53), tt))
      (record { answer = (Ok tt); exit = (sheet_of 2 9750, (lent_mut (bytes_of (sheet_of 2 9750) ++ room 1), tt)) })
      (record { answer = (Ok tt); exit = (sheet_of 2 9750, (lent_mut (bytes_of (sheet_of 2 9750) ++ ascii "\n"), tt)) })
  pub write_past_two :
      TellsOutcome (WriteSheetSays (one κ)) (both_sets, (lent_mut (room 82), tt))
      (record { answer = (Ok tt); exit = (both_sets, (lent_mut (bytes_of both_sets ++ room 1), tt)) })
      (record { answer = (Ok tt); exit = (both_sets, (lent_mut (bytes_of both_sets ++ ascii "\n"), tt)) })
  pub write_order :
      TellsOutcome (WriteSheetSays (one κ)) (sheet_of 3 9750, (lent_mut (room 51), tt))
      (record { answer = refused SheetNumbersNotAllowed; exit = (sheet_of 3 9750, (lent_mut (room 51), tt)) })
      (record { answer = refused OutputTooShort; exit = (sheet_of 3 9750, (lent_mut (room 51), tt)) })
  pub write_order_two :
      TellsOutcome (WriteSheetSays (one κ)) (split_sheet 2 forecasts settled, (lent_mut (room 80), tt))
      (record { answer = refused SheetNumbersNotAllowed; exit = (split_sheet 2 forecasts settled, (lent_mut (room 80), tt)) })
      (record { answer = refused OutputTooShort; exit = (split_sheet 2 forecasts settled, (lent_mut (room 80), tt)) })
  pub write_short :
      TellsOutcome (WriteSheetSays (one κ)) (sheet_of 2 9750, (lent_mut (room 51), tt))
      (record { answer = refused OutputTooShort; exit = (sheet_of 2 9750, (lent_mut (room 51), tt)) })
      (record { answer = refused OutputTooShort; exit = (sheet_of 2 9750, (lent_mut (take 51 (bytes_of (sheet_of 2 9750))), tt)) })
  pub write_short_two :
      TellsOutcome (WriteSheetSays (one κ)) (both_sets, (lent_mut (room 80), tt))
      (record { answer = refused OutputTooShort; exit = (both_sets, (lent_mut (room 80), tt)) })
      (record { answer = (Ok tt); exit = (both_sets, (lent_mut (take 80 (bytes_of both_sets)), tt)) })
  pub write_split :
      TellsOutcome (WriteSheetSays (one κ)) (both_sets, (lent_mut (room 81), tt))
      (record { answer = (Ok tt); exit = (both_sets, (lent_mut (bytes_of both_sets), tt)) })
      (record { answer = (Ok tt); exit = (both_sets, (lent_mut (bytes_of (split_sheet 0 forecasts settled)), tt)) })
  pub write_exchanged :
      TellsOutcome (WriteSheetSays (one κ)) (both_sets, (lent_mut (room 81), tt))
      (record { answer = (Ok tt); exit = (both_sets, (lent_mut (bytes_of both_sets), tt)) })
      (record { answer = (Ok tt); exit = (both_sets, (lent_mut (bytes_of (split_sheet 1 settled forecasts)), tt)) })
  pub write_low_first :
      TellsOutcome (WriteSheetSays (one κ)) (both_sets, (lent_mut (room 81), tt))
      (record { answer = (Ok tt); exit = (both_sets, (lent_mut (bytes_of both_sets), tt)) })
      (record { answer = (Ok tt); exit = (both_sets, (lent_mut (at 54 "\u{2}\0\0\0" (bytes_of both_sets)), tt)) })
  -- a new sheet of edition 1 written, in version 1 and in version 2; 17 before 22, and 2; 22 for edition 3
  pub write_old :
      TellsOutcome (WriteSheetSays (one κ)) (sheet_of 1 9750, (lent_mut (room 52), tt))
      (record { answer = refused EditionRetired; exit = (sheet_of 1 9750, (lent_mut (room 52), tt)) })
      (record { answer = (Ok tt); exit = (sheet_of 1 9750, (lent_mut (bytes_of (sheet_of 1 9750)), tt)) })
  pub write_old_two :
      TellsOutcome (WriteSheetSays (one κ)) (old_sets, (lent_mut (room 81), tt))
      (record { answer = refused EditionRetired; exit = (old_sets, (lent_mut (room 81), tt)) })
      (record { answer = (Ok tt); exit = (old_sets, (lent_mut (bytes_of old_sets), tt)) })
  pub write_old_numbers :
      TellsOutcome (WriteSheetSays (one κ)) (sheet_of 1 9751, (lent_mut (room 52), tt))
      (record { answer = refused EditionRetired; exit = (sheet_of 1 9751, (lent_mut (room 52), tt)) })
      (record { answer = refused SheetNumbersNotAllowed; exit = (sheet_of 1 9751, (lent_mut (room 52), tt)) })
  pub write_old_short :
      TellsOutcome (WriteSheetSays (one κ)) (sheet_of 1 9750, (lent_mut (room 51), tt))
      (record { answer = refused EditionRetired; exit = (sheet_of 1 9750, (lent_mut (room 51), tt)) })
      (record { answer = refused OutputTooShort; exit = (sheet_of 1 9750, (lent_mut (room 51), tt)) })
  pub write_3 :
      TellsOutcome (WriteSheetSays (one κ)) (sheet_of 3 9750, (lent_mut (room 52), tt))
      (record { answer = refused SheetNumbersNotAllowed; exit = (sheet_of 3 9750, (lent_mut (room 52), tt)) })
      (record { answer = refused EditionRetired; exit = (sheet_of 3 9750, (lent_mut (room 52), tt)) })
  -- `convert`: the split told as known; what is lent as output filled where the sheet is not readable, 2 before that refusal, and 17 for 15; 80 bytes enough from 1 to 2, 81
  -- wanted from 2 to 1; a byte past what is written changed; the settled alone; the same version again; a sheet of edition 1 refused, or become one of edition 2
  pub convert : OneOutcome (λ κs s. s.1.0.now) ConvertSheetSays
  pub convert_split :
      TellsOutcome (ConvertSheetSays (two κ)) (lent (bytes_of (sheet_of 2 9750)), (lent_mut (room 81), tt))
      (record { answer = (Ok tt); exit = (lent (bytes_of (sheet_of 2 9750)), (lent_mut (bytes_of (split_sheet 0 no_totals settled)), tt)) })
      (record { answer = (Ok tt); exit = (lent (bytes_of (sheet_of 2 9750)), (lent_mut (bytes_of (split_sheet 1 no_totals settled)), tt)) })
  pub convert_unreadable :
      TellsOutcome (ConvertSheetSays (two κ)) (lent (bytes_of (sheet_of 2 9751)), (lent_mut (room 81), tt))
      (record { answer = refused SheetNumbersNotAllowed; exit = (lent (bytes_of (sheet_of 2 9751)), (lent_mut (room 81), tt)) })
      (record { answer = refused SheetNumbersNotAllowed; exit = (lent (bytes_of (sheet_of 2 9751)), (lent_mut (bytes_of (split_sheet 0 no_totals (totals_of 1 (amounts 10000 250 9751)))), tt)) })
  pub convert_order :
      TellsOutcome (ConvertSheetSays (two κ)) (lent (bytes_of (sheet_of 3 9750)), (lent_mut (room 0), tt))
      (record { answer = refused SheetNumbersNotAllowed; exit = (lent (bytes_of (sheet_of 3 9750)), (lent_mut (room 0), tt)) })
      (record { answer = refused OutputTooShort; exit = (lent (bytes_of (sheet_of 3 9750)), (lent_mut (room 0), tt)) })
  pub convert_no_sheet :
      TellsOutcome (ConvertSheetSays (two κ)) (lent (take 51 (bytes_of (sheet_of 2 9750))), (lent_mut (room 81), tt))
      (record { answer = refused NotADaySheet; exit = (lent (take 51 (bytes_of (sheet_of 2 9750))), (lent_mut (room 81), tt)) })
      (record { answer = refused SheetNumbersNotAllowed; exit = (lent (take 51 (bytes_of (sheet_of 2 9750))), (lent_mut (room 81), tt)) })
  pub convert_short :
      TellsOutcome (ConvertSheetSays (two κ)) (lent (bytes_of (sheet_of 2 9750)), (lent_mut (room 80), tt))
      (record { answer = refused OutputTooShort; exit = (lent (bytes_of (sheet_of 2 9750)), (lent_mut (room 80), tt)) })
      (record { answer = (Ok tt); exit = (lent (bytes_of (sheet_of 2 9750)), (lent_mut (take 80 (bytes_of (split_sheet 0 no_totals settled))), tt)) })
  pub convert_room :
      TellsOutcome (ConvertSheetSays (two κ)) (lent (bytes_of both_sets), (lent_mut (room 52), tt))
      (record { answer = (Ok tt); exit = (lent (bytes_of both_sets), (lent_mut (bytes_of added), tt)) })
      (record { answer = refused OutputTooShort; exit = (lent (bytes_of both_sets), (lent_mut (room 52), tt)) })
  pub convert_past :
      TellsOutcome (ConvertSheetSays (two κ)) (lent (bytes_of both_sets), (lent_mut (room 53), tt))
      (record { answer = (Ok tt); exit = (lent (bytes_of both_sets), (lent_mut (bytes_of added ++ room 1), tt)) })
      (record { answer = (Ok tt); exit = (lent (bytes_of both_sets), (lent_mut (bytes_of added ++ ascii "\n"), tt)) })
  pub convert_settled :
      TellsOutcome (ConvertSheetSays (two κ)) (lent (bytes_of both_sets), (lent_mut (room 52), tt))
      (record { answer = (Ok tt); exit = (lent (bytes_of both_sets), (lent_mut (bytes_of added), tt)) })
      (record { answer = (Ok tt); exit = (lent (bytes_of both_sets), (lent_mut (bytes_of (sheet_of 2 9750)), tt)) })
  pub convert_same :
      TellsOutcome (ConvertSheetSays (two κ)) (lent (bytes_of (sheet_of 2 9750)), (lent_mut (room 81), tt))
      (record { answer = (Ok tt); exit = (lent (bytes_of (sheet_of 2 9750)), (lent_mut (bytes_of (split_sheet 0 no_totals settled)), tt)) })
      (record { answer = (Ok tt); exit = (lent (bytes_of (sheet_of 2 9750)), (lent_mut (bytes_of (sheet_of 2 9750) ++ room 29), tt)) })
  pub convert_old :
      TellsOutcome (ConvertSheetSays (two κ)) (lent (bytes_of old_sets), (lent_mut (room 52), tt))
      (record { answer = (Ok tt); exit = (lent (bytes_of old_sets), (lent_mut (bytes_of old_added), tt)) })
      (record { answer = refused EditionRetired; exit = (lent (bytes_of old_sets), (lent_mut (room 52), tt)) })
  pub convert_old_edition :
      TellsOutcome (ConvertSheetSays (two κ)) (lent (bytes_of old_sets), (lent_mut (room 52), tt))
      (record { answer = (Ok tt); exit = (lent (bytes_of old_sets), (lent_mut (bytes_of old_added), tt)) })
      (record { answer = (Ok tt); exit = (lent (bytes_of old_sets), (lent_mut (bytes_of added), tt)) })
  -- `is_retired`: an edition cut down to a byte, 257 to 1; edition 2 retired; edition 1 not
  pub is_retired : OneAnswer IsRetiredSays
  pub is_retired_257 : Tells (IsRetiredSays tt) (257, tt) false true
  pub is_retired_2 : Tells (IsRetiredSays tt) (2, tt) false true
  pub is_retired_1 : Tells (IsRetiredSays tt) (1, tt) true false
  -- `fault_of`: 258 cut down to 2; 22 for edition 3; 1 for edition 1, and none; edition 2 retired
  pub edition_fault_lem : OneAnswer FaultOfEditionSays
  pub edition_fault_258 : Tells (FaultOfEditionSays tt) (258, tt) (fault_at EditionUnknown 0) nothing
  pub edition_fault_3 : Tells (FaultOfEditionSays tt) (3, tt) (fault_at EditionUnknown 0) (fault_at EditionRetired 0)
  pub edition_fault_1 : Tells (FaultOfEditionSays tt) (1, tt) (fault_at EditionRetired 0) (fault_at EditionUnknown 0)
  pub edition_fault_none : Tells (FaultOfEditionSays tt) (1, tt) (fault_at EditionRetired 0) nothing
  pub edition_fault_2 : Tells (FaultOfEditionSays tt) (2, tt) nothing (fault_at EditionRetired 0)
  -- `edition_of`: a value that wraps, 2^64 + 2; no digit at all taken for 0; a sign passed over
  pub edition_of_lem : OneAnswer EditionOfSays
  pub edition_wraps : Tells (EditionOfSays (one κ)) (lent (ascii "18446744073709551618"), tt) (Some 18446744073709551615) (Some 2)
  pub edition_nothing : Tells (EditionOfSays (one κ)) (lent [], tt) None (Some 0)
  pub edition_sign : Tells (EditionOfSays (one κ)) (lent (ascii "+2"), tt) None (Some 2)
