-- THE DEMANDS, as one closed statement: each with all its hypotheses, over every input, through the paper's rows.
use Rattle.std.specs.Prelude.{ℕ, ◌≡◌, List, [], ◌∷◌, ◌++◌, true, false}
use Rattle.refusal.specs.declared.Cause.TheVariants.{EditionUnknown, EditionRetired}
use Rattle.refusal.specs.declared.Refusal.{Refusal}
use Rattle.refusal.specs.Row.{no_refusal}
use Rattle.lines.specs.Lines.{all_no_lf, cut}
use Rattle.wording.specs.Shown.{shown_as}
use Rattle.file_list.specs.Line.{file_line}
use Rattle.first_fault.specs.InTurn.{pieces_hold}
use Rattle.edition.specs.Known.{current, retired, known}
use Rattle.card_run.specs.declared.running.Running.{Running}
use Rattle.card_run.specs.Running.{open_of, closed_of}
use Rattle.card_run.specs.Answer.{answer_of, refused_row, card_file_row}
use Rattle.card_file.specs.Feeding.{fed_all}
use Rattle.card_kept.specs.FirstFault.{FirstFaultOfRecord, rules_behind, FirstFaultDecides}
use Rattle.card_kept.specs.Limits.{MillionthRecord, SumOfNoTrailer}
use Rattle.card_kept.specs.State.{StateKnown}
use Rattle.payroll_run.specs.declared.running.Running.{Running as PayrollRunning}
use Rattle.payroll_file.specs.Answer.{refused_row as payroll_refused_row, state_row}
use Rattle.payroll_kept.specs.FirstFault as PayrollRecord
use Rattle.payroll_kept.specs.FirstFaultOfFile as PayrollFile
use Rattle.payroll_kept.specs.Limits.{StaysAtTop, TooLarge}
use Rattle.payroll_kept.specs.State as PayrollState
use Rattle.payroll_stream.specs.declared.feeding.Feeding.{Feeding}
use Rattle.payroll_stream.specs.Stream.{progress_row}
use Rattle.payroll_stream.specs.Feeding.{answer_of as feeding_answer}
use Rattle.demands.specs.DaySheets.{SheetThereAndBack, SheetConverted, SheetOfFile}
use Rattle.demands.specs.Editions.{RefusedOutright}
use Rattle.demands.specs.Examples.{examples, all_as_written}
use Rattle.demands.specs.Feeding.{FedAsWhole, RefusedForGood, AfterAcceptedClose, OnePastTheLast}
use Rattle.demands.specs.HiddenDigits.{HiddenDigitsReachNothing, MaskedWhereHidden}
use Rattle.demands.specs.HiddenDigitsExample.{one_file, other_file, one_credit, other_credit, TwinsThatDiffer}
use Rattle.demands.specs.InChunks.{AsTheWhole, AfterTheEnd}
use Rattle.demands.specs.KeptAsNumbers.{KeptAsNumbers}
use Rattle.demands.specs.LentBuffers.{RefusedLeavesAlone}
use Rattle.demands.specs.MaskTwice.{MaskTwice}
use Rattle.demands.specs.PayrollFeeding.{PayrollFedAsWhole, PayrollRefusedForGood, PayrollAfterAcceptedClose}
use Rattle.demands.specs.RowsOfFile.{RowsOfFile}
use Rattle.demands.specs.RulesKept.{CardRulesKept, PayrollRulesKept}
use Rattle.demands.specs.SameWay.{SameWay}
use Rattle.demands.specs.TwinsMade.{TwinsMade}

pub record Demands : Type 0 where
  -- DEMAND 1. "A refusal gives number, record and column .. at the first fault in 01's order, and no lent byte has changed"

  -- a record fed to a state that is not refused
  pub record_judged : (st : Running) (r : List ℕ) → (card_file_row (answer_of st)).refusal ≡ no_refusal → FirstFaultOfRecord st r
  -- "Order: 1, then ..": under an edition that is not known every file gets 1; under one that is retired 22, "right after 1" (`edition_retired`);
  pub edition_first : (edition : ℕ) → known edition ≡ false → RefusedOutright edition EditionUnknown
  -- and under one that is current the first fault in the file decides
  pub file_judged : (edition : ℕ) → current edition ≡ true → (file : List ℕ) → FirstFaultDecides edition file
  -- its rules look at the records before alone; where those keep the rules, what the program has come to is their state
  pub state_known : (edition : ℕ) → current edition ≡ true → (pieces : List (List ℕ)) → all_no_lf pieces ≡ true → pieces_hold (rules_behind edition) [] pieces ≡ true →
      StateKnown edition pieces
  -- "A millionth record is refused by 9, unless an earlier rule refuses it"; "A sum too large for its field equals none"
  pub millionth_record : MillionthRecord
  pub sum_of_no_trailer : SumOfNoTrailer
  -- a payroll record taken by a state that is not refused, and a payroll file
  pub payroll_record_judged : (st : PayrollRunning) (r : List ℕ) → (state_row st.stage).refusal ≡ no_refusal → PayrollRecord.FirstFaultOfRecord st r
  pub payroll_file_judged : (file : List ℕ) → PayrollFile.FirstFaultDecides file
  pub payroll_state_known : (pieces : List (List ℕ)) → pieces_hold PayrollFile.rules_behind [] pieces ≡ true → PayrollState.StateKnown pieces
  -- "Sums are whole numbers: one too large for 18 digits equals no trailer", and the top of 64 bits, which stands for all beyond it, is no less too large
  pub payroll_too_large : (file : List ℕ) (earlier : List (List ℕ)) → TooLarge file earlier
  pub payroll_top : StaysAtTop
  -- what is lent
  pub refused_leaves_alone : RefusedLeavesAlone
  -- DEMAND 2. "Accepted exactly when 01's rules are kept. Counts, totals, masked copy are those defined there"
  pub card_rules_kept : CardRulesKept
  pub payroll_rules_kept : PayrollRulesKept
  -- "A day sheet that we write reads back as the same numbers, and a readable sheet is the one we would write", of edition 2; of edition 1 "through conversion only"
  pub sheet_there_and_back : SheetThereAndBack
  -- "Demand 2's clause on sheets now covers both versions"; "From 1 to 2 and back gives the same bytes"
  pub sheet_converted : SheetConverted
  pub sheet_of_file : SheetOfFile
  -- the adjustments of a file as CSV
  pub rows_of_file : RowsOfFile
  -- a file among many has one line, whatever its name holds: the words and the name, and one LF at the end
  pub one_line_each : (words name : List ℕ) → cut (file_line words name) ≡ record { pieces = (shown_as 32 words ++ shown_as 63 name) ∷ []; rest = [] }
  -- "Feeding records one by one ends as reading the whole does": "Equality with the whole holds for records without LF"
  pub fed_as_whole : (edition : ℕ) (records : List (List ℕ)) → all_no_lf records ≡ true → FedAsWhole edition records
  -- "Once refused, every later call gives that same refusal"
  pub refused_for_good : (st : Running) (refusal : Refusal) → card_file_row (answer_of st) ≡ refused_row refusal → RefusedForGood st refusal
  -- "After an accepted close, a further record is 13 and a further close the same answer"
  pub after_accepted_close : (st : Running) → (card_file_row (answer_of st)).accepted ≡ true → AfterAcceptedClose st
  pub one_past_the_last : (edition : ℕ) (records : List (List ℕ)) →
      (card_file_row (answer_of (closed_of (fed_all (open_of edition) records)))).accepted ≡ true → OnePastTheLast edition records
  -- and of a payroll file
  pub payroll_fed_as_whole : (records : List (List ℕ)) → all_no_lf records ≡ true → PayrollFedAsWhole records
  pub payroll_refused_for_good : (f : Feeding) (refusal : Refusal) → progress_row (feeding_answer f) ≡ payroll_refused_row refusal → PayrollRefusedForGood f refusal
  pub payroll_after_accepted_close : (f : Feeding) → (progress_row (feeding_answer f)).accepted ≡ true → PayrollAfterAcceptedClose f
  -- in chunks of any size
  pub in_chunks : AsTheWhole
  pub after_the_end_lem : AfterTheEnd
  -- and by numbers, which a caller keeps from one call to the next
  pub kept_as_numbers : KeptAsNumbers
  -- DEMAND 3. "Two files that differ only in hidden digits get the same verdict, refusal, counts, totals, sheet and output bytes"
  pub hidden_digits_reach_nothing : HiddenDigitsReachNothing
  -- whatever digits are put for hidden digits, the file is a twin, and there is no other twin
  pub twins_made : TwinsMade
  -- nor do hidden digits choose the way through a record
  pub same_way : SameWay
  -- "In demand 3 the shared edition is now 2": under edition 1 every file gets 22, whatever it holds
  pub edition_retired : (edition : ℕ) → retired edition ≡ true → RefusedOutright edition EditionRetired
  -- "The masked copy is the accepted file with a star at each such place"
  pub masked_where_hidden : (file : List ℕ) → MaskedWhereHidden file
  -- "Mask twice, lose nothing"
  pub mask_twice : MaskTwice
  -- there are such files
  pub twins_that_differ : TwinsThatDiffer one_file other_file
  pub credits_that_differ : TwinsThatDiffer one_credit other_credit
  -- THE EXAMPLES marked (p)
  pub examples_hold : all_as_written examples ≡ true
