-- What the contracts of the programs' libraries are held to. Behind a function's name: the wrong programs that are ruled out.
-- What asks the system has no one answer: its contract says what every answer is, and rules out what is none.
use Rattle.std.specs.Prelude.{ℕ, ◌≡◌, List, true, false, Err, None, Ok, Some}
use Prim.Native.String.{String}
use base.Fml.{Lft}
use Rattle.std.specs.Borrow.{Bor}
use Rattle.std.specs.contracts.fs.File.{the_row}
use Rattle.std.specs.contracts.fs.FileRead.TheImpl as FileRead
use Rattle.text.specs.Literal.{ascii}
use Rattle.refusal.specs.declared.Cause.TheVariants.{EditionUnknown, EditionRetired, SequenceWrong, WrongWidth, EndsTooEarly}
use Rattle.sheet_numbers.specs.Converted.{converted}
use Rattle.demands.specs.ExampleFile.{file_of}
use Rattle.card_file.specs.CardFile.{check_of}
use Rattle.card_stream.specs.Stream.{open_of}
use Rattle.payroll_stream.specs.Stream.{open_of as open_payroll}
use Rattle.card_program.specs.Verdict.{verdict_text}
use Rattle.program.specs.declared.mistake.Mistake.TheVariants.{EditionNoNumber, System, TooLong}
use Rattle.program.specs.declared.mistake.Failed.TheVariants.{Read as Reading}
use Rattle.program.specs.contracts.argument.argument_of as ArgumentOf
use Rattle.program.specs.contracts.argument.read as ReadArgument
use Rattle.program.specs.contracts.argument.read_three as ReadThree
use Rattle.card_program.specs.contracts.outcome.is_decided as IsDecided
use Rattle.card_program.specs.contracts.outcome.is_accepted as IsAccepted
use Rattle.card_program.specs.contracts.outcome.outcome_at as OutcomeAt
use Rattle.card_program.specs.declared.verdict.Lines.TheVariants.{Sales}
use Rattle.card_program.specs.contracts.check.check as Check
use Rattle.card_program.specs.contracts.check.check_file as CheckFile
use Rattle.card_program.specs.contracts.work.work as Work
use Rattle.card_copy.specs.declared.output.Output.TheVariants.{MaskedCopy, Adjustments}
use Rattle.card_copy.specs.contracts.work.work as Copy
use Rattle.sheet_program.specs.contracts.work.work as Write
use Rattle.sheet_program.specs.contracts.read.read as ReadSheet
use Rattle.sheet_program.specs.contracts.convert.convert as ConvertSheet
use Rattle.payroll_program.specs.contracts.outcome.is_decided as IsDecidedPayroll
use Rattle.payroll_program.specs.contracts.outcome.outcome_at as PayrollOutcomeAt
use Rattle.payroll_program.specs.contracts.check.check as CheckPayroll
use Rattle.payroll_program.specs.contracts.check.check_file as CheckPayrollFile
use borrow.Fn.Read.{r_last}
use Rattle.answers.specs.Held.{Claim, fact_of, logic, memory, run, OneAnswer, Tells, Runtime, Opened, lent, lent_mut, two, three, four}
use Rattle.answers.specs.Samples.{at, sale, card_file}
use Rattle.answers.specs.Totals.{amounts, settled}
use Rattle.answers.specs.CardRun.{refusal, one_sale, accepted}
use Rattle.answers.specs.Texts.{eleven_lines}
use Rattle.answers.specs.DaySheet.{sheet_of, both_sets}
use Rattle.card_run.specs.Answer.{CardAnswer}
use Rattle.payroll_file.specs.Answer.{PayrollAnswer}

-- what each contract says
abbrev ArgumentOfSays : Claim ArgumentOf.ended
ArgumentOfSays κs a r s = fact_of ((ArgumentOf.clauses logic memory run κs a).ensures tt r s) (r_last _)

abbrev ReadArgumentSays : Claim ReadArgument.ended
ReadArgumentSays κs a r s = fact_of ((ReadArgument.clauses logic memory run κs a).ensures tt r s) (r_last _)

abbrev ReadThreeSays : Claim ReadThree.ended
ReadThreeSays κs a r s = fact_of ((ReadThree.clauses logic memory run κs a).ensures tt r s) (r_last _)

abbrev IsDecidedSays : Claim IsDecided.ended
IsDecidedSays κs a r s = fact_of ((IsDecided.clauses logic memory run κs a).ensures tt r s) (r_last _)

abbrev IsAcceptedSays : Claim IsAccepted.ended
IsAcceptedSays κs a r s = fact_of ((IsAccepted.clauses logic memory run κs a).ensures tt r s) (r_last _)

abbrev OutcomeAtSays : Claim OutcomeAt.ended
OutcomeAtSays κs a r s = fact_of ((OutcomeAt.clauses logic memory run κs a).ensures tt r s) (r_last _)

abbrev CheckSays : Claim (Check.ended the_row FileRead.ghosts FileRead.dict)
CheckSays κs a r s = fact_of ((Check.clauses the_row FileRead.ghosts FileRead.dict logic memory run κs a).ensures tt r s) (r_last _)

abbrev CheckFileSays : Claim CheckFile.ended
CheckFileSays κs a r s = fact_of ((CheckFile.clauses logic memory run κs a).ensures tt r s) (r_last _)

abbrev WorkSays : Claim (Work.ended the_row FileRead.ghosts FileRead.dict)
WorkSays κs a r s = fact_of ((Work.clauses the_row FileRead.ghosts FileRead.dict logic memory run κs a).ensures tt r s) (r_last _)

abbrev CopySays : Claim Copy.ended
CopySays κs a r s = fact_of ((Copy.clauses logic memory run κs a).ensures tt r s) (r_last _)

abbrev WriteSays : Claim Write.ended
WriteSays κs a r s = fact_of ((Write.clauses logic memory run κs a).ensures tt r s) (r_last _)

abbrev ReadSheetSays : Claim ReadSheet.ended
ReadSheetSays κs a r s = fact_of ((ReadSheet.clauses logic memory run κs a).ensures tt r s) (r_last _)

abbrev ConvertSheetSays : Claim ConvertSheet.ended
ConvertSheetSays κs a r s = fact_of ((ConvertSheet.clauses logic memory run κs a).ensures tt r s) (r_last _)

abbrev IsDecidedPayrollSays : Claim IsDecidedPayroll.ended
IsDecidedPayrollSays κs a r s = fact_of ((IsDecidedPayroll.clauses logic memory run κs a).ensures tt r s) (r_last _)

abbrev PayrollOutcomeAtSays : Claim PayrollOutcomeAt.ended
PayrollOutcomeAtSays κs a r s = fact_of ((PayrollOutcomeAt.clauses logic memory run κs a).ensures tt r s) (r_last _)

abbrev CheckPayrollSays : Claim (CheckPayroll.ended the_row FileRead.ghosts FileRead.dict)
CheckPayrollSays κs a r s = fact_of ((CheckPayroll.clauses the_row FileRead.ghosts FileRead.dict logic memory run κs a).ensures tt r s) (r_last _)

abbrev CheckPayrollFileSays : Claim CheckPayrollFile.ended
CheckPayrollFileSays κs a r s = fact_of ((CheckPayrollFile.clauses logic memory run κs a).ensures tt r s) (r_last _)

-- an accepted file whose gross is neither discount nor net, and the refusals of an edition that is not known, and of one that is retired
abbrev pub made_up : CardAnswer
made_up = accepted 5 1 (settled 1 (amounts 10000 250 9751))

abbrev unknown_edition : CardAnswer
unknown_edition = Some (Err (refusal EditionUnknown 0 0))

abbrev retired_edition : CardAnswer
retired_edition = Some (Err (refusal EditionRetired 0 0))

-- a payroll file's answer
abbrev paid : ℕ → ℕ → PayrollAnswer
paid records amount = Ok (record { records = records; batches = 1; payments = 1; amount = amount })

-- the arguments of `mask` and `sheet`: an edition, and two names
abbrev arguments : String → Bor (List ℕ) × (Bor (List ℕ) × (Bor (List ℕ) × Unit {0}))
arguments edition = (lent (ascii edition), (lent (ascii "a"), (lent (ascii "b"), tt)))

pub record Programs (κ : Lft) (rt : Runtime) (file : Opened) : Type 0 where
  -- document 01's example of what is printed: "A file of A0, L0, one cash CV with 10000, 250, 9750, L9, A9" prints seven lines, and by document 02 "eight lines in place of four":
  -- eleven; "With CV numbered 000004 it prints one line"
  pub eleven_lines_lem : verdict_text Sales (check_of 2 card_file) ≡ ascii eleven_lines
  pub one_line : verdict_text Sales (check_of 2 (file_of (at 194 "000004" sale))) ≡ ascii "REFUSED 9 RECORD 3 COLUMN 194\n"
  -- `argument_of`: one that is too long taken for an empty one; any argument taken for one that is too long
  pub argument_of_lem : OneAnswer ArgumentOfSays
  pub argument_of_long : Tells (ArgumentOfSays tt) (0, (36, tt)) (Err TooLong) (Ok 0)
  pub argument_of_whole : Tells (ArgumentOfSays tt) (1, (0, tt)) (Ok 1) (Err TooLong)
  -- `argument::read` and `read_three`: more bytes than there is room for
  pub argument_room : Tells (ReadArgumentSays (two κ)) (rt, (1, (lent_mut (ascii "2"), tt))) (Ok 1) (Ok 2)
  pub three_room :
      Tells (ReadThreeSays (four κ)) (rt, (lent_mut (ascii "2"), (lent_mut (ascii "ab"), (lent_mut (ascii "c"), tt)))) (Ok (1, 2, 1)) (Ok (1, 2, 2))
  -- `card_program::is_decided`: decided while the file goes on; a refusal that no further byte can change left open
  pub decided : OneAnswer IsDecidedSays
  pub decided_going_on : Tells (IsDecidedSays tt) (None, tt) false true
  pub decided_refused : Tells (IsDecidedSays tt) (Some (Err (refusal SequenceWrong 3 194)), tt) true false
  -- `is_accepted`: a refused file's OUT kept; a file that could not be read taken for accepted
  pub accepts : OneAnswer IsAcceptedSays
  pub accepts_refused : Tells (IsAcceptedSays tt) (Ok (Some (Err (refusal SequenceWrong 3 194))), tt) false true
  pub accepts_mistake : Tells (IsAcceptedSays tt) (Err (System Reading 5), tt) false true
  -- `outcome_at`: a failed read taken for the end; a verdict while the file goes on
  pub outcome_at_lem : OneAnswer OutcomeAtSays
  pub outcome_failed : Tells (OutcomeAtSays tt) (Err 5, (open_of 2, tt)) (Err (System Reading 5)) (Ok (Some (Err (refusal EndsTooEarly 1 0))))
  pub outcome_early : Tells (OutcomeAtSays tt) (Ok (Some 9), (open_of 2, tt)) (Err (System Reading 0)) (Ok (Some (Err (refusal EndsTooEarly 1 0))))
  -- `check`: totals that no file has; an edition that the program chose itself
  pub check_totals : Tells (CheckSays (two κ)) (2, (file, tt)) (Ok (accepted 5 1 one_sale)) (Ok made_up)
  pub check_edition : Tells (CheckSays (two κ)) (3, (file, tt)) (Ok unknown_edition) (Ok (accepted 5 1 one_sale))
  -- `check_file`: the same, of a card file and of a payroll file by its name
  pub check_file_totals : Tells (CheckFileSays (two κ)) (rt, (2, (lent (ascii "a"), tt))) (Ok (accepted 5 1 one_sale)) (Ok made_up)
  pub check_file_edition : Tells (CheckFileSays (two κ)) (rt, (3, (lent (ascii "a"), tt))) (Ok unknown_edition) (Ok (accepted 5 1 one_sale))
  pub check_file_amount :
      Tells (CheckPayrollFileSays (two κ)) (rt, (lent (ascii "a"), tt)) (Ok (paid 5 10000)) (Ok (paid 5 10000000000000000000))
  pub check_file_records : Tells (CheckPayrollFileSays (two κ)) (rt, (lent (ascii "a"), tt)) (Ok (paid 5 10000)) (Ok (paid 1000000 10000))
  -- `work` of `card`, of `mask` and `adjustments`, and of `sheet`: always edition 2; edition 1 not known, or still read; a word that is no number taken for one; a number told as none
  pub work_edition : Tells (WorkSays (three κ)) (lent (ascii "3"), (file, tt)) (Ok unknown_edition) (Ok (accepted 5 1 one_sale))
  pub work_retired : Tells (WorkSays (three κ)) (lent (ascii "1"), (file, tt)) (Ok retired_edition) (Ok unknown_edition)
  pub work_word : Tells (WorkSays (three κ)) (lent (ascii "two"), (file, tt)) (Err EditionNoNumber) (Ok (accepted 5 1 one_sale))
  pub work_number : Tells (WorkSays (three κ)) (lent (ascii "2"), (file, tt)) (Ok (accepted 5 1 one_sale)) (Err EditionNoNumber)
  pub mask_edition : Tells (CopySays (four κ)) (rt, (MaskedCopy, arguments "3")) (Ok unknown_edition) (Ok (accepted 5 1 one_sale))
  pub mask_retired : Tells (CopySays (four κ)) (rt, (MaskedCopy, arguments "1")) (Ok retired_edition) (Ok (accepted 5 1 one_sale))
  pub mask_word : Tells (CopySays (four κ)) (rt, (MaskedCopy, arguments "two")) (Err EditionNoNumber) (Ok (accepted 5 1 one_sale))
  pub mask_totals : Tells (CopySays (four κ)) (rt, (MaskedCopy, arguments "2")) (Ok (accepted 5 1 one_sale)) (Ok made_up)
  pub rows_edition : Tells (CopySays (four κ)) (rt, (Adjustments, arguments "3")) (Ok unknown_edition) (Ok (accepted 5 1 one_sale))
  pub rows_word : Tells (CopySays (four κ)) (rt, (Adjustments, arguments "two")) (Err EditionNoNumber) (Ok (accepted 5 1 one_sale))
  pub write_edition : Tells (WriteSays (four κ)) (rt, arguments "3") (Ok unknown_edition) (Ok (accepted 5 1 one_sale))
  pub write_retired : Tells (WriteSays (four κ)) (rt, arguments "1") (Ok retired_edition) (Ok (accepted 5 1 one_sale))
  pub write_word : Tells (WriteSays (four κ)) (rt, arguments "two") (Err EditionNoNumber) (Ok (accepted 5 1 one_sale))
  pub write_totals : Tells (WriteSays (four κ)) (rt, arguments "2") (Ok (accepted 5 1 one_sale)) (Ok made_up)
  -- `sheet_program::read`: a sheet of edition 3; one whose amounts disagree
  pub sheet_edition_lem : Tells (ReadSheetSays (two κ)) (rt, (lent (ascii "a"), tt)) (Ok (Ok (sheet_of 2 9750))) (Ok (Ok (sheet_of 3 9750)))
  pub sheet_amounts : Tells (ReadSheetSays (two κ)) (rt, (lent (ascii "a"), tt)) (Ok (Ok (sheet_of 2 9750))) (Ok (Ok (sheet_of 2 9751)))
  -- `sheet_program::convert`: a split that is told as known; a sheet of edition 3
  pub convert_split :
      Tells (ConvertSheetSays (three κ)) (rt, (lent (ascii "a"), (lent (ascii "b"), tt))) (Ok (Ok (converted (sheet_of 2 9750)))) (Ok (Ok both_sets))
  pub convert_edition :
      Tells (ConvertSheetSays (three κ)) (rt, (lent (ascii "a"), (lent (ascii "b"), tt))) (Ok (Ok (converted (sheet_of 2 9750)))) (Ok (Ok (converted (sheet_of 3 9750))))
  -- `payroll_program::is_decided`: decided while the file goes on; a refusal left open
  pub decided_payroll : OneAnswer IsDecidedPayrollSays
  pub decided_payroll_going_on : Tells (IsDecidedPayrollSays tt) (None, tt) false true
  pub decided_payroll_refused : Tells (IsDecidedPayrollSays tt) (Some (Err (refusal WrongWidth 3 0)), tt) true false
  -- `payroll_program::outcome_at`: a failed read taken for the end; a verdict while the file goes on
  pub payroll_at_lem : OneAnswer PayrollOutcomeAtSays
  pub payroll_failed : Tells (PayrollOutcomeAtSays tt) (Err 5, (open_payroll, tt)) (Err (System Reading 5)) (Ok (Err (refusal EndsTooEarly 1 0)))
  pub payroll_early : Tells (PayrollOutcomeAtSays tt) (Ok (Some 9), (open_payroll, tt)) (Err (System Reading 0)) (Ok (Err (refusal EndsTooEarly 1 0)))
  -- `payroll_program::check`: an amount of 10^19; a million records
  pub check_amount : Tells (CheckPayrollSays (two κ)) (file, tt) (Ok (paid 5 10000)) (Ok (paid 5 10000000000000000000))
  pub check_records : Tells (CheckPayrollSays (two κ)) (file, tt) (Ok (paid 5 10000)) (Ok (paid 1000000 10000))
