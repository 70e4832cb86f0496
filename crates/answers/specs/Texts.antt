-- What the contracts of the texts that programs say are held to.
-- Behind a function's name: the wrong programs that are ruled out.
use Rattle.std.specs.Prelude.{ℕ, ◌-◌, List, [], ◌++◌, length, take, replicate, Err, Ok, Some}
use Prim.Native.String.{String}
use base.Fml.{Lft}
use Rattle.text.specs.Literal.{ascii}
use Rattle.refusal.specs.declared.Refusal.{Refusal}
use Rattle.refusal.specs.declared.Cause.TheVariants.{SequenceWrong}
use Rattle.totals.specs.declared.amounts.Totals.{Totals}
use Rattle.program.specs.declared.mistake.Mistake.{Mistake as Told}
use Rattle.program.specs.declared.mistake.Mistake.TheVariants.{System}
use Rattle.program.specs.declared.mistake.Failed.TheVariants.{Sync}
use Rattle.card_program.specs.declared.verdict.Lines.TheVariants.{Sales, Adjustments}
use Rattle.wording.specs.contracts.put.text as PutText
use Rattle.wording.specs.contracts.put.number as PutNumber
use Rattle.wording.specs.contracts.line.line as PutLine
use Rattle.wording.specs.contracts.line.refused as PutRefused
use Rattle.program.specs.contracts.mistake.put as PutMistake
use Rattle.card_program.specs.contracts.verdict.put_totals as PutTotals
use Rattle.card_program.specs.contracts.verdict.put_sets as PutSets
use Rattle.card_program.specs.contracts.verdict.put_outcome as PutOutcome
use Rattle.payroll_program.specs.contracts.verdict.put_outcome as PutPayroll
use Rattle.sheet_program.specs.contracts.verdict.put_outcome as PutSheet
use Rattle.files.specs.declared.writing.Standard.TheVariants.{Output, Error}
use Rattle.card_program.specs.contracts.verdict.descriptor as Descriptor
use Rattle.payroll_program.specs.contracts.verdict.descriptor as PayrollDescriptor
use Rattle.sheet_program.specs.contracts.verdict.descriptor as SheetDescriptor
use borrow.Fn.Read.{r_last}
use Rattle.answers.specs.Held.{Claim, fact_of, logic, memory, run, OneAnswer, OneOutcome, Tells, TellsOutcome, lent, lent_mut, one, two}
use Rattle.answers.specs.Samples.{room}
use Rattle.answers.specs.Totals.{amounts, totals_of}
use Rattle.answers.specs.CardRun.{refusal, one_sale, adjusted, numbers_with, accepted}
use Rattle.answers.specs.DaySheet.{sheet_of, both_sets}
use Rattle.card_program.specs.Outcome.{Outcome}
use Rattle.payroll_program.specs.Outcome.{PayrollOutcome}
use Rattle.sheet_program.specs.SheetRead.{SheetOutcome}

-- what each contract says
abbrev PutTextSays : Claim PutText.ended
PutTextSays κs a r s = fact_of ((PutText.clauses logic memory run κs a).ensures tt r s) (r_last _)

abbrev PutNumberSays : Claim PutNumber.ended
PutNumberSays κs a r s = fact_of ((PutNumber.clauses logic memory run κs a).ensures tt r s) (r_last _)

abbrev PutLineSays : Claim PutLine.ended
PutLineSays κs a r s = fact_of ((PutLine.clauses logic memory run κs a).ensures tt r s) (r_last _)

abbrev PutRefusedSays : Claim PutRefused.ended
PutRefusedSays κs a r s = fact_of ((PutRefused.clauses logic memory run κs a).ensures tt r s) (r_last _)

abbrev PutMistakeSays : Claim PutMistake.ended
PutMistakeSays κs a r s = fact_of ((PutMistake.clauses logic memory run κs a).ensures tt r s) (r_last _)

abbrev PutTotalsSays : Claim PutTotals.ended
PutTotalsSays κs a r s = fact_of ((PutTotals.clauses logic memory run κs a).ensures tt r s) (r_last _)

abbrev PutSetsSays : Claim PutSets.ended
PutSetsSays κs a r s = fact_of ((PutSets.clauses logic memory run κs a).ensures tt r s) (r_last _)

abbrev PutOutcomeSays : Claim PutOutcome.ended
PutOutcomeSays κs a r s = fact_of ((PutOutcome.clauses logic memory run κs a).ensures tt r s) (r_last _)

abbrev PutPayrollSays : Claim PutPayroll.ended
PutPayrollSays κs a r s = fact_of ((PutPayroll.clauses logic memory run κs a).ensures tt r s) (r_last _)

abbrev PutSheetSays : Claim PutSheet.ended
PutSheetSays κs a r s = fact_of ((PutSheet.clauses logic memory run κs a).ensures tt r s) (r_last _)

abbrev DescriptorSays : Claim Descriptor.ended
DescriptorSays κs a r s = fact_of ((Descriptor.clauses logic memory run κs a).ensures tt r s) (r_last _)

abbrev PayrollDescriptorSays : Claim PayrollDescriptor.ended
PayrollDescriptorSays κs a r s = fact_of ((PayrollDescriptor.clauses logic memory run κs a).ensures tt r s) (r_last _)

abbrev SheetDescriptorSays : Claim SheetDescriptor.ended
SheetDescriptorSays κs a r s = fact_of ((SheetDescriptor.clauses logic memory run κs a).ensures tt r s) (r_last _)

-- a text at the start of a buffer of dots
abbrev pub shown : ℕ → String → List ℕ
shown size text = ascii text ++ replicate (size - length (ascii text)) 46

-- document 01's refusal, numbers whose gross is neither discount nor net, and outcomes with these
abbrev late : Refusal
late = refusal SequenceWrong 3 194

abbrev day : Totals
day = totals_of 4 (amounts 65990 1650 64340)

abbrev example : Outcome
example = Ok (accepted 5 1 one_sale)

-- document 01's example, as it is printed with both sets
abbrev pub eleven_lines : String
eleven_lines =
    "ACCEPTED\nRECORDS 5\nBATCHES 1\nFORECAST SALES 0\nFORECAST GROSS 0\nFORECAST DISCOUNT 0\nFORECAST NET 0\nSETTLED SALES 1\nSETTLED GROSS 10000\nSETTLED DISCOUNT 250\nSETTLED NET 9750\n"

-- with two credits and a debit
abbrev example_adjusted : Outcome
example_adjusted = Ok (Some (Ok (numbers_with 7 1 one_sale (adjusted 2 4425) (adjusted 1 4875))))

abbrev late_card : Outcome
late_card = Ok (Some (Err late))

abbrev wages : PayrollOutcome
wages = Ok (Ok (record { records = 9; batches = 2; payments = 3; amount = 1301625 }))

abbrev late_payroll : PayrollOutcome
late_payroll = Ok (Err late)

abbrev day_sheet : SheetOutcome
day_sheet = Ok (Ok (sheet_of 2 9750))

abbrev split_sheet : SheetOutcome
split_sheet = Ok (Ok both_sets)

abbrev unsynced : Told
unsynced = System Sync 13

pub record Texts (κ : Lft) : Type 0 where
  -- `put::text`: put at the start though bytes stand there; counted past the buffer's end
  pub text : OneOutcome (λ κs s. s.1.0.now) PutTextSays
  pub text_at_start :
      TellsOutcome (PutTextSays (two κ)) (lent (ascii "ab"), (lent_mut (ascii "...."), (1, tt)))
      (record { answer = 3; exit = (lent (ascii "ab"), (lent_mut (ascii ".ab."), (1, tt))) })
      (record { answer = 3; exit = (lent (ascii "ab"), (lent_mut (ascii "ab.."), (1, tt))) })
  pub text_past_the_end :
      TellsOutcome (PutTextSays (two κ)) (lent (ascii "ab"), (lent_mut (ascii ".."), (1, tt)))
      (record { answer = 2; exit = (lent (ascii "ab"), (lent_mut (ascii ".a"), (1, tt))) })
      (record { answer = 3; exit = (lent (ascii "ab"), (lent_mut (ascii ".a"), (1, tt))) })
  -- `put::number`: a zero in front; no digit for 0; the digits from the last
  pub number : OneOutcome (λ κs s. s.1.0.now) PutNumberSays
  pub number_padded :
      TellsOutcome (PutNumberSays (one κ)) (5, (lent_mut (room 3), (0, tt)))
      (record { answer = 1; exit = (5, (lent_mut (shown 3 "5"), (0, tt))) })
      (record { answer = 2; exit = (5, (lent_mut (shown 3 "05"), (0, tt))) })
  pub number_zero :
      TellsOutcome (PutNumberSays (one κ)) (0, (lent_mut (room 3), (0, tt)))
      (record { answer = 1; exit = (0, (lent_mut (shown 3 "0"), (0, tt))) })
      (record { answer = 0; exit = (0, (lent_mut (room 3), (0, tt))) })
  pub number_from_the_last :
      TellsOutcome (PutNumberSays (one κ)) (194, (lent_mut (room 3), (0, tt)))
      (record { answer = 3; exit = (194, (lent_mut (ascii "194"), (0, tt))) })
      (record { answer = 3; exit = (194, (lent_mut (ascii "491"), (0, tt))) })
  -- `line::line`: no line end; the number first
  pub line : OneOutcome (λ κs s. s.1.1.0.now) PutLineSays
  pub line_no_end :
      TellsOutcome (PutLineSays (two κ)) (lent (ascii "SALES"), (4, (lent_mut (room 9), (0, tt))))
      (record { answer = 8; exit = (lent (ascii "SALES"), (4, (lent_mut (shown 9 "SALES 4\n"), (0, tt)))) })
      (record { answer = 7; exit = (lent (ascii "SALES"), (4, (lent_mut (shown 9 "SALES 4"), (0, tt)))) })
  pub line_number_first :
      TellsOutcome (PutLineSays (two κ)) (lent (ascii "SALES"), (4, (lent_mut (room 9), (0, tt))))
      (record { answer = 8; exit = (lent (ascii "SALES"), (4, (lent_mut (shown 9 "SALES 4\n"), (0, tt)))) })
      (record { answer = 8; exit = (lent (ascii "SALES"), (4, (lent_mut (shown 9 "4 SALES\n"), (0, tt)))) })
  -- `line::refused`: record and column exchanged; the cause counted from 0
  pub refused : OneOutcome (λ κs s. s.1.0.now) PutRefusedSays
  pub refused_exchanged :
      TellsOutcome (PutRefusedSays (one κ)) (late, (lent_mut (room 32), (0, tt)))
      (record { answer = 30; exit = (late, (lent_mut (shown 32 "REFUSED 9 RECORD 3 COLUMN 194\n"), (0, tt))) })
      (record { answer = 30; exit = (late, (lent_mut (shown 32 "REFUSED 9 RECORD 194 COLUMN 3\n"), (0, tt))) })
  pub refused_from_0 :
      TellsOutcome (PutRefusedSays (one κ)) (late, (lent_mut (room 32), (0, tt)))
      (record { answer = 30; exit = (late, (lent_mut (shown 32 "REFUSED 9 RECORD 3 COLUMN 194\n"), (0, tt))) })
      (record { answer = 30; exit = (late, (lent_mut (shown 32 "REFUSED 8 RECORD 3 COLUMN 194\n"), (0, tt))) })
  -- `mistake::put`: an OUT that is written told as one that is not; another reason
  pub mistake : OneOutcome (λ κs s. s.1.0.now) PutMistakeSays
  pub mistake_unwritten :
      TellsOutcome (PutMistakeSays (one κ)) (unsynced, (lent_mut (room 120), (0, tt)))
      (record { answer = 104; exit = (unsynced, (lent_mut (shown 120 "OUT is written, but its folder cannot be synced, so see that it outlasts a power cut: Permission denied\n"), (0, tt))) })
      (record { answer = 104; exit = (unsynced, (lent_mut (shown 120 "OUT cannot be written, so give a file's name in a folder where you may write: Permission denied\n"), (0, tt))) })
  pub mistake_reason :
      TellsOutcome (PutMistakeSays (one κ)) (unsynced, (lent_mut (room 120), (0, tt)))
      (record { answer = 104; exit = (unsynced, (lent_mut (shown 120 "OUT is written, but its folder cannot be synced, so see that it outlasts a power cut: Permission denied\n"), (0, tt))) })
      (record { answer = 104; exit = (unsynced, (lent_mut (shown 120 "OUT is written, but its folder cannot be synced, so see that it outlasts a power cut: Read-only file system\n"), (0, tt))) })
  -- `put_totals`: gross and net exchanged; no line of the discount; a word that leads the first line alone
  pub totals : OneOutcome (λ κs s. s.1.1.0.now) PutTotalsSays
  pub totals_exchanged :
      TellsOutcome (PutTotalsSays (two κ)) (lent [], (day, (lent_mut (room 50), (0, tt))))
      (record { answer = 44; exit = (lent [], (day, (lent_mut (shown 50 "SALES 4\nGROSS 65990\nDISCOUNT 1650\nNET 64340\n"), (0, tt)))) })
      (record { answer = 44; exit = (lent [], (day, (lent_mut (shown 50 "SALES 4\nGROSS 64340\nDISCOUNT 1650\nNET 65990\n"), (0, tt)))) })
  pub totals_no_discount :
      TellsOutcome (PutTotalsSays (two κ)) (lent [], (day, (lent_mut (room 50), (0, tt))))
      (record { answer = 44; exit = (lent [], (day, (lent_mut (shown 50 "SALES 4\nGROSS 65990\nDISCOUNT 1650\nNET 64340\n"), (0, tt)))) })
      (record { answer = 30; exit = (lent [], (day, (lent_mut (shown 50 "SALES 4\nGROSS 65990\nNET 64340\n"), (0, tt)))) })
  pub totals_led_once :
      TellsOutcome (PutTotalsSays (two κ)) (lent (ascii "ALL "), (day, (lent_mut (room 60), (0, tt))))
      (record { answer = 60; exit = (lent (ascii "ALL "), (day, (lent_mut (shown 60 "ALL SALES 4\nALL GROSS 65990\nALL DISCOUNT 1650\nALL NET 64340\n"), (0, tt)))) })
      (record { answer = 48; exit = (lent (ascii "ALL "), (day, (lent_mut (shown 60 "ALL SALES 4\nGROSS 65990\nDISCOUNT 1650\nNET 64340\n"), (0, tt)))) })
  -- `put_sets`: the settled first; a set without sales left out
  pub sets : OneOutcome (λ κs s. s.1.0.now) PutSetsSays
  pub sets_exchanged :
      TellsOutcome (PutSetsSays (one κ)) (one_sale, (lent_mut (room 147), (0, tt)))
      (record { answer = 143; exit = (one_sale, (lent_mut (shown 147 "FORECAST SALES 0\nFORECAST GROSS 0\nFORECAST DISCOUNT 0\nFORECAST NET 0\nSETTLED SALES 1\nSETTLED GROSS 10000\nSETTLED DISCOUNT 250\nSETTLED NET 9750\n"), (0, tt))) })
      (record { answer = 143; exit = (one_sale, (lent_mut (shown 147 "SETTLED SALES 1\nSETTLED GROSS 10000\nSETTLED DISCOUNT 250\nSETTLED NET 9750\nFORECAST SALES 0\nFORECAST GROSS 0\nFORECAST DISCOUNT 0\nFORECAST NET 0\n"), (0, tt))) })
  pub sets_left_out :
      TellsOutcome (PutSetsSays (one κ)) (one_sale, (lent_mut (room 147), (0, tt)))
      (record { answer = 143; exit = (one_sale, (lent_mut (shown 147 "FORECAST SALES 0\nFORECAST GROSS 0\nFORECAST DISCOUNT 0\nFORECAST NET 0\nSETTLED SALES 1\nSETTLED GROSS 10000\nSETTLED DISCOUNT 250\nSETTLED NET 9750\n"), (0, tt))) })
      (record { answer = 74; exit = (one_sale, (lent_mut (shown 147 "SETTLED SALES 1\nSETTLED GROSS 10000\nSETTLED DISCOUNT 250\nSETTLED NET 9750\n"), (0, tt))) })
  -- `card_program::put_outcome`: records and batches exchanged; forecast and settled exchanged; both in four lines; a refused file accepted
  pub card : OneOutcome (λ κs s. s.1.1.0.now) PutOutcomeSays
  pub card_exchanged :
      TellsOutcome (PutOutcomeSays (one κ)) (Sales, (example, (lent_mut (room 176), (0, tt))))
      (record { answer = 172; exit = (Sales, (example, (lent_mut (shown 176 eleven_lines), (0, tt)))) })
      (record { answer = 172; exit = (Sales, (example, (lent_mut (shown 176 "ACCEPTED\nRECORDS 1\nBATCHES 5\nFORECAST SALES 0\nFORECAST GROSS 0\nFORECAST DISCOUNT 0\nFORECAST NET 0\nSETTLED SALES 1\nSETTLED GROSS 10000\nSETTLED DISCOUNT 250\nSETTLED NET 9750\n"), (0, tt)))) })
  pub card_sets_exchanged :
      TellsOutcome (PutOutcomeSays (one κ)) (Sales, (example, (lent_mut (room 176), (0, tt))))
      (record { answer = 172; exit = (Sales, (example, (lent_mut (shown 176 eleven_lines), (0, tt)))) })
      (record { answer = 172; exit = (Sales, (example, (lent_mut (shown 176 "ACCEPTED\nRECORDS 5\nBATCHES 1\nFORECAST SALES 1\nFORECAST GROSS 10000\nFORECAST DISCOUNT 250\nFORECAST NET 9750\nSETTLED SALES 0\nSETTLED GROSS 0\nSETTLED DISCOUNT 0\nSETTLED NET 0\n"), (0, tt)))) })
  pub card_four_lines :
      TellsOutcome (PutOutcomeSays (one κ)) (Sales, (example, (lent_mut (room 176), (0, tt))))
      (record { answer = 172; exit = (Sales, (example, (lent_mut (shown 176 eleven_lines), (0, tt)))) })
      (record { answer = 71; exit = (Sales, (example, (lent_mut (shown 176 "ACCEPTED\nRECORDS 5\nBATCHES 1\nSALES 1\nGROSS 10000\nDISCOUNT 250\nNET 9750\n"), (0, tt)))) })
  pub card_accepted :
      TellsOutcome (PutOutcomeSays (one κ)) (Sales, (late_card, (lent_mut (room 32), (0, tt))))
      (record { answer = 30; exit = (Sales, (late_card, (lent_mut (shown 32 "REFUSED 9 RECORD 3 COLUMN 194\n"), (0, tt)))) })
      (record { answer = 9; exit = (Sales, (late_card, (lent_mut (shown 32 "ACCEPTED\n"), (0, tt)))) })
  -- of its adjustments: credits and debits exchanged; the lines of its sales
  pub adjusted_exchanged :
      TellsOutcome (PutOutcomeSays (one κ)) (Adjustments, (example_adjusted, (lent_mut (room 64), (0, tt))))
      (record { answer = 59; exit = (Adjustments, (example_adjusted, (lent_mut (shown 64 "ACCEPTED\nCREDITS 2\nCREDIT NET 4425\nDEBITS 1\nDEBIT NET 4875\n"), (0, tt)))) })
      (record { answer = 59; exit = (Adjustments, (example_adjusted, (lent_mut (shown 64 "ACCEPTED\nCREDITS 1\nCREDIT NET 4875\nDEBITS 2\nDEBIT NET 4425\n"), (0, tt)))) })
  pub adjusted_sales :
      TellsOutcome (PutOutcomeSays (one κ)) (Adjustments, (example_adjusted, (lent_mut (room 64), (0, tt))))
      (record { answer = 59; exit = (Adjustments, (example_adjusted, (lent_mut (shown 64 "ACCEPTED\nCREDITS 2\nCREDIT NET 4425\nDEBITS 1\nDEBIT NET 4875\n"), (0, tt)))) })
      (record { answer = 64; exit = (Adjustments, (example_adjusted, (lent_mut (take 64 (ascii eleven_lines)), (0, tt)))) })
  -- `payroll_program::put_outcome`: payments and amount exchanged; record and column exchanged
  pub payroll : OneOutcome (λ κs s. s.1.0.now) PutPayrollSays
  pub payroll_exchanged :
      TellsOutcome (PutPayrollSays (one κ)) (wages, (lent_mut (room 56), (0, tt)))
      (record { answer = 55; exit = (wages, (lent_mut (shown 56 "ACCEPTED\nRECORDS 9\nBATCHES 2\nPAYMENTS 3\nAMOUNT 1301625\n"), (0, tt))) })
      (record { answer = 55; exit = (wages, (lent_mut (shown 56 "ACCEPTED\nRECORDS 9\nBATCHES 2\nPAYMENTS 1301625\nAMOUNT 3\n"), (0, tt))) })
  pub payroll_refused_lem :
      TellsOutcome (PutPayrollSays (one κ)) (late_payroll, (lent_mut (room 32), (0, tt)))
      (record { answer = 30; exit = (late_payroll, (lent_mut (shown 32 "REFUSED 9 RECORD 3 COLUMN 194\n"), (0, tt))) })
      (record { answer = 30; exit = (late_payroll, (lent_mut (shown 32 "REFUSED 9 RECORD 194 COLUMN 3\n"), (0, tt))) })
  -- `sheet_program::put_outcome`: a movement without its zeros; the day first; of version 2 the settled first, no line of the version or of the split, both sets added as version 1 has them
  pub sheet : OneOutcome (λ κs s. s.1.0.now) PutSheetSays
  pub sheet_movement :
      TellsOutcome (PutSheetSays (one κ)) (day_sheet, (lent_mut (room 96), (0, tt)))
      (record { answer = 92; exit = (day_sheet, (lent_mut (shown 96 "EDITION 2\nDATE 20240229\nMOVEMENT 000001\nBATCHES 1\nSALES 1\nGROSS 10000\nDISCOUNT 250\nNET 9750\n"), (0, tt))) })
      (record { answer = 87; exit = (day_sheet, (lent_mut (shown 96 "EDITION 2\nDATE 20240229\nMOVEMENT 1\nBATCHES 1\nSALES 1\nGROSS 10000\nDISCOUNT 250\nNET 9750\n"), (0, tt))) })
  pub sheet_day_first :
      TellsOutcome (PutSheetSays (one κ)) (day_sheet, (lent_mut (room 96), (0, tt)))
      (record { answer = 92; exit = (day_sheet, (lent_mut (shown 96 "EDITION 2\nDATE 20240229\nMOVEMENT 000001\nBATCHES 1\nSALES 1\nGROSS 10000\nDISCOUNT 250\nNET 9750\n"), (0, tt))) })
      (record { answer = 92; exit = (day_sheet, (lent_mut (shown 96 "EDITION 2\nDATE 29022024\nMOVEMENT 000001\nBATCHES 1\nSALES 1\nGROSS 10000\nDISCOUNT 250\nNET 9750\n"), (0, tt))) })
  pub sheet_settled_first :
      TellsOutcome (PutSheetSays (one κ)) (split_sheet, (lent_mut (room 225), (0, tt)))
      (record { answer = 221; exit = (split_sheet, (lent_mut (shown 225 "VERSION 2\nEDITION 2\nDATE 20240229\nMOVEMENT 000001\nBATCHES 1\nSPLIT 1\nFORECAST SALES 2\nFORECAST GROSS 20000\nFORECAST DISCOUNT 500\nFORECAST NET 19500\nSETTLED SALES 1\nSETTLED GROSS 10000\nSETTLED DISCOUNT 250\nSETTLED NET 9750\n"), (0, tt))) })
      (record { answer = 221; exit = (split_sheet, (lent_mut (shown 225 "VERSION 2\nEDITION 2\nDATE 20240229\nMOVEMENT 000001\nBATCHES 1\nSPLIT 1\nSETTLED SALES 1\nSETTLED GROSS 10000\nSETTLED DISCOUNT 250\nSETTLED NET 9750\nFORECAST SALES 2\nFORECAST GROSS 20000\nFORECAST DISCOUNT 500\nFORECAST NET 19500\n"), (0, tt))) })
  pub sheet_no_version :
      TellsOutcome (PutSheetSays (one κ)) (split_sheet, (lent_mut (room 225), (0, tt)))
      (record { answer = 221; exit = (split_sheet, (lent_mut (shown 225 "VERSION 2\nEDITION 2\nDATE 20240229\nMOVEMENT 000001\nBATCHES 1\nSPLIT 1\nFORECAST SALES 2\nFORECAST GROSS 20000\nFORECAST DISCOUNT 500\nFORECAST NET 19500\nSETTLED SALES 1\nSETTLED GROSS 10000\nSETTLED DISCOUNT 250\nSETTLED NET 9750\n"), (0, tt))) })
      (record { answer = 211; exit = (split_sheet, (lent_mut (shown 225 "EDITION 2\nDATE 20240229\nMOVEMENT 000001\nBATCHES 1\nSPLIT 1\nFORECAST SALES 2\nFORECAST GROSS 20000\nFORECAST DISCOUNT 500\nFORECAST NET 19500\nSETTLED SALES 1\nSETTLED GROSS 10000\nSETTLED DISCOUNT 250\nSETTLED NET 9750\n"), (0, tt))) })
  pub sheet_no_split :
      TellsOutcome (PutSheetSays (one κ)) (split_sheet, (lent_mut (room 225), (0, tt)))
      (record { answer = 221; exit = (split_sheet, (lent_mut (shown 225 "VERSION 2\nEDITION 2\nDATE 20240229\nMOVEMENT 000001\nBATCHES 1\nSPLIT 1\nFORECAST SALES 2\nFORECAST GROSS 20000\nFORECAST DISCOUNT 500\nFORECAST NET 19500\nSETTLED SALES 1\nSETTLED GROSS 10000\nSETTLED DISCOUNT 250\nSETTLED NET 9750\n"), (0, tt))) })
      (record { answer = 213; exit = (split_sheet, (lent_mut (shown 225 "VERSION 2\nEDITION 2\nDATE 20240229\nMOVEMENT 000001\nBATCHES 1\nFORECAST SALES 2\nFORECAST GROSS 20000\nFORECAST DISCOUNT 500\nFORECAST NET 19500\nSETTLED SALES 1\nSETTLED GROSS 10000\nSETTLED DISCOUNT 250\nSETTLED NET 9750\n"), (0, tt))) })
  pub sheet_added :
      TellsOutcome (PutSheetSays (one κ)) (split_sheet, (lent_mut (room 225), (0, tt)))
      (record { answer = 221; exit = (split_sheet, (lent_mut (shown 225 "VERSION 2\nEDITION 2\nDATE 20240229\nMOVEMENT 000001\nBATCHES 1\nSPLIT 1\nFORECAST SALES 2\nFORECAST GROSS 20000\nFORECAST DISCOUNT 500\nFORECAST NET 19500\nSETTLED SALES 1\nSETTLED GROSS 10000\nSETTLED DISCOUNT 250\nSETTLED NET 9750\n"), (0, tt))) })
      (record { answer = 93; exit = (split_sheet, (lent_mut (shown 225 "EDITION 2\nDATE 20240229\nMOVEMENT 000001\nBATCHES 1\nSALES 3\nGROSS 30000\nDISCOUNT 750\nNET 29250\n"), (0, tt))) })
  -- `descriptor` of each program: a verdict to standard error; a mistake to standard output
  pub card_to : OneAnswer DescriptorSays
  pub card_to_error : Tells (DescriptorSays tt) (example, tt) Output Error
  pub card_to_output : Tells (DescriptorSays tt) (Err unsynced, tt) Error Output
  pub payroll_to : OneAnswer PayrollDescriptorSays
  pub payroll_to_error : Tells (PayrollDescriptorSays tt) (wages, tt) Output Error
  pub payroll_to_output : Tells (PayrollDescriptorSays tt) (Err unsynced, tt) Error Output
  pub sheet_to : OneAnswer SheetDescriptorSays
  pub sheet_to_error : Tells (SheetDescriptorSays tt) (day_sheet, tt) Output Error
  pub sheet_to_output : Tells (SheetDescriptorSays tt) (Err unsynced, tt) Error Output
