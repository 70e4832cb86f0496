-- What the contracts of the running state of a card file are held to. Behind a function's name: the wrong programs that are ruled out.
use Rattle.std.specs.Prelude.{ℕ, true, false, Err, None, Ok, Some}
use Rattle.refusal.specs.declared.Cause.{Cause}
use Rattle.refusal.specs.declared.Refusal.{Refusal}
use Rattle.totals.specs.declared.two_sets.TwoSets.{TwoSets}
use Rattle.totals.specs.TwoSets.{summed}
use Rattle.card_run.specs.declared.stage.Stage.{Stage}
use Rattle.card_run.specs.declared.running.Running.{Running}
use Rattle.card_run.specs.declared.answer.Accepted.{Accepted as Numbers}
use Rattle.card_run.specs.declared.adjusted.Adjusted.{Adjusted}
use Rattle.card_run.specs.declared.batch.OpenBatch.{OpenBatch}
use Rattle.refusal.specs.declared.Cause.TheVariants.{EditionUnknown, EditionRetired, SequenceWrong, EndsTooEarly, BytesAfterTheEnd}
use Rattle.card_record.specs.declared.kind.Kind.TheVariants.{A0, Cv, Aj, L9}
use Rattle.card_run.specs.declared.stage.Stage.TheVariants.{Start, BetweenBatches, InBatch, Ended, Closed, Refused}
use Rattle.card_run.specs.Running.{numbers_of}
use Rattle.answers.specs.Totals.{amounts, settled, forecast}
use Rattle.card_run.specs.contracts.running.Running.open as Open
use Rattle.card_run.specs.contracts.running.Running.refused as RefusedAt
use Rattle.card_run.specs.contracts.running.Running.next_number as NextNumber
use Rattle.card_run.specs.contracts.running.Running.moved as Moved
use Rattle.card_run.specs.contracts.running.Running.late as Late
use Rattle.card_run.specs.contracts.adjusted.Adjusted.none as NoAdjustment
use Rattle.card_run.specs.contracts.adjusted.Adjusted.one_more as OneMore
use Rattle.card_run.specs.contracts.batch.OpenBatch.none as NoTransaction
use Rattle.card_run.specs.contracts.batch.OpenBatch.with_added as WithAdded
use Rattle.card_run.specs.contracts.batch.OpenBatch.with_taken as WithTaken
use Rattle.card_run.specs.contracts.batch.OpenBatch.sums_to as SumsTo
use Rattle.card_run.specs.contracts.running.Running.close as Close
use Rattle.card_run.specs.contracts.running.Running.answer as Answer
use Rattle.card_run.specs.contracts.stage.Stage.is_open as IsOpen
use Rattle.card_run.specs.contracts.stage.Stage.allows as Allows
use borrow.Fn.Read.{r_last}
use Rattle.answers.specs.Held.{Claim, fact_of, logic, memory, run, OneAnswer, Tells}
use Rattle.card_run.specs.Answer.{CardAnswer}

-- what each contract says
abbrev OpenSays : Claim Open.ended
OpenSays κs a r s = fact_of ((Open.clauses logic memory run κs a).ensures tt r s) (r_last _)

abbrev RefusedAtSays : Claim RefusedAt.ended
RefusedAtSays κs a r s = fact_of ((RefusedAt.clauses logic memory run κs a).ensures tt r s) (r_last _)

abbrev NextNumberSays : Claim NextNumber.ended
NextNumberSays κs a r s = fact_of ((NextNumber.clauses logic memory run κs a).ensures tt r s) (r_last _)

abbrev MovedSays : Claim Moved.ended
MovedSays κs a r s = fact_of ((Moved.clauses logic memory run κs a).ensures tt r s) (r_last _)

abbrev LateSays : Claim Late.ended
LateSays κs a r s = fact_of ((Late.clauses logic memory run κs a).ensures tt r s) (r_last _)

abbrev NoAdjustmentSays : Claim NoAdjustment.ended
NoAdjustmentSays κs a r s = fact_of ((NoAdjustment.clauses logic memory run κs a).ensures tt r s) (r_last _)

abbrev OneMoreSays : Claim OneMore.ended
OneMoreSays κs a r s = fact_of ((OneMore.clauses logic memory run κs a).ensures tt r s) (r_last _)

abbrev NoTransactionSays : Claim NoTransaction.ended
NoTransactionSays κs a r s = fact_of ((NoTransaction.clauses logic memory run κs a).ensures tt r s) (r_last _)

abbrev WithAddedSays : Claim WithAdded.ended
WithAddedSays κs a r s = fact_of ((WithAdded.clauses logic memory run κs a).ensures tt r s) (r_last _)

abbrev WithTakenSays : Claim WithTaken.ended
WithTakenSays κs a r s = fact_of ((WithTaken.clauses logic memory run κs a).ensures tt r s) (r_last _)

abbrev SumsToSays : Claim SumsTo.ended
SumsToSays κs a r s = fact_of ((SumsTo.clauses logic memory run κs a).ensures tt r s) (r_last _)

abbrev CloseSays : Claim Close.ended
CloseSays κs a r s = fact_of ((Close.clauses logic memory run κs a).ensures tt r s) (r_last _)

abbrev AnswerSays : Claim Answer.ended
AnswerSays κs a r s = fact_of ((Answer.clauses logic memory run κs a).ensures tt r s) (r_last _)

abbrev IsOpenSays : Claim IsOpen.ended
IsOpenSays κs a r s = fact_of ((IsOpen.clauses logic memory run κs a).ensures tt r s) (r_last _)

abbrev AllowsSays : Claim Allows.ended
AllowsSays κs a r s = fact_of ((Allows.clauses logic memory run κs a).ensures tt r s) (r_last _)

-- so many adjustments of one type, of such a net
abbrev pub adjusted : ℕ → ℕ → Adjusted
adjusted count net = record { count = count; net = net }

-- the numbers of a file of so many records and batches with these totals and adjustments, and without adjustments
abbrev pub numbers_with : ℕ → ℕ → TwoSets → Adjusted → Adjusted → Numbers
numbers_with = numbers_of 20240229 1

abbrev pub numbers : ℕ → ℕ → TwoSets → Numbers
numbers records batches totals = numbers_with records batches totals (adjusted 0 0) (adjusted 0 0)

-- an open batch, and one of which nothing is taken
abbrev pub batch_of : ℕ → ℕ → ℕ → OpenBatch
batch_of transactions added taken = record { transactions = transactions; added = added; taken = taken }

abbrev pub batch : ℕ → ℕ → OpenBatch
batch transactions added = batch_of transactions added 0

-- a state of edition 2 at a stage, behind so many records, whose sales come to these totals, all of the open batch, forecast and settled
abbrev pub state : Stage → ℕ → TwoSets → Running
state stage records totals =
    record { stage = stage; edition = 2; numbers = numbers records 0 totals; batch = batch (summed totals).sales (summed totals).amounts.gross }

-- a state of edition 2 in a batch, behind so many records, with these totals, adjustments and open batch
abbrev pub in_batch_with : ℕ → TwoSets → Adjusted → Adjusted → OpenBatch → Running
in_batch_with records totals credits debits open_batch_lem =
    record { stage = InBatch; edition = 2; numbers = numbers_with records 0 totals credits debits; batch = open_batch_lem }

-- a refusal
abbrev pub refusal : Cause → ℕ → ℕ → Refusal
refusal cause number column = record { cause = cause; «record» = number; column = column }

-- before a batch is open, and in one without a sale and with document 01's; and with that as a forecast
abbrev pub no_sale : TwoSets
no_sale = settled 0 (amounts 0 0 0)

abbrev pub one_sale : TwoSets
one_sale = settled 1 (amounts 10000 250 9750)

abbrev pub one_forecast : TwoSets
one_forecast = forecast 1 (amounts 10000 250 9750)

-- an accepted file of so many records and batches with these totals
abbrev pub accepted : ℕ → ℕ → TwoSets → CardAnswer
accepted records batches totals = Some (Ok (numbers records batches totals))

-- a file of an edition of which nothing has come
abbrev pub opened : Stage → ℕ → Running
opened stage edition =
    record {
      stage = stage;
      edition = edition;
      numbers = numbers_of 0 0 0 0 no_sale (adjusted 0 0) (adjusted 0 0);
      batch = batch 0 0;
    }

pub record CardRun : Type 0 where
  -- `Running::open`: an edition cut down to a byte, 258 to 2; edition 1 open, so that 22 comes at the close at the earliest; 1 for edition 1, and 22 for edition 3
  pub opens : OneAnswer OpenSays
  pub open_258 : Tells (OpenSays tt) (258, tt) (opened (Refused (refusal EditionUnknown 0 0)) 258) (opened Start 258)
  pub open_1 : Tells (OpenSays tt) (1, tt) (opened (Refused (refusal EditionRetired 0 0)) 1) (opened Start 1)
  pub open_unknown : Tells (OpenSays tt) (1, tt) (opened (Refused (refusal EditionRetired 0 0)) 1) (opened (Refused (refusal EditionUnknown 0 0)) 1)
  pub open_3 : Tells (OpenSays tt) (3, tt) (opened (Refused (refusal EditionUnknown 0 0)) 3) (opened (Refused (refusal EditionRetired 0 0)) 3)
  -- `Running::refused`: the record before told; the refusal forgotten
  pub refuses : OneAnswer RefusedAtSays
  pub refused_before : Tells (RefusedAtSays tt) (state InBatch 2 no_sale, (SequenceWrong, (194, tt))) (state (Refused (refusal SequenceWrong 3 194)) 2 no_sale) (state (Refused (refusal SequenceWrong 2 194)) 2 no_sale)
  pub refused_forgotten : Tells (RefusedAtSays tt) (state InBatch 2 no_sale, (SequenceWrong, (194, tt))) (state (Refused (refusal SequenceWrong 3 194)) 2 no_sale) (state InBatch 2 no_sale)
  -- `Running::next_number`: the number of the last record; a number that wraps
  pub next_number_lem : OneAnswer NextNumberSays
  pub next_number_last : Tells (NextNumberSays tt) (state InBatch 2 no_sale, tt) 3 2
  pub next_number_wraps : Tells (NextNumberSays tt) (state InBatch 18446744073709551615 no_sale, tt) 18446744073709551615 0
  -- `Running::moved`: the stage kept; the numbers kept; the open batch kept
  pub moved : OneAnswer MovedSays
  pub moved_stage : Tells (MovedSays tt) (state InBatch 3 one_sale, (Ended, (numbers 3 0 one_sale, (batch 1 10000, tt)))) (state Ended 3 one_sale) (state InBatch 3 one_sale)
  pub moved_numbers : Tells (MovedSays tt) (state InBatch 2 one_sale, (InBatch, (numbers 3 0 one_sale, (batch 1 10000, tt)))) (state InBatch 3 one_sale) (state InBatch 2 one_sale)
  pub moved_batch : Tells (MovedSays tt) (state InBatch 3 one_sale, (InBatch, (numbers 3 0 no_sale, (batch 0 0, tt)))) (state InBatch 3 no_sale) (record { stage = InBatch; edition = 2; numbers = numbers 3 0 no_sale; batch = batch 1 10000 })
  -- `Running::late`: bytes behind A9 passed over; a refused file refused anew
  pub late : OneAnswer LateSays
  pub late_behind_a9 : Tells (LateSays tt) (state Ended 5 one_sale, tt) (state (Refused (refusal BytesAfterTheEnd 6 0)) 5 one_sale) (state Ended 5 one_sale)
  pub late_refused : Tells (LateSays tt) (state (Refused (refusal SequenceWrong 3 194)) 5 one_sale, tt) (state (Refused (refusal SequenceWrong 3 194)) 5 one_sale) (state (Refused (refusal BytesAfterTheEnd 6 0)) 5 one_sale)
  -- `Adjusted::none`: an adjustment that has not come, a net that has not; `Adjusted::one_more`: the net forgotten, a count that wraps
  pub no_adjustment_lem : OneAnswer NoAdjustmentSays
  pub no_adjustment_one : Tells (NoAdjustmentSays tt) tt (adjusted 0 0) (adjusted 1 0)
  pub no_adjustment_net : Tells (NoAdjustmentSays tt) tt (adjusted 0 0) (adjusted 0 975)
  pub one_more : OneAnswer OneMoreSays
  pub one_more_forgotten : Tells (OneMoreSays tt) (adjusted 1 975, (25, tt)) (adjusted 2 1000) (adjusted 2 25)
  pub one_more_wraps : Tells (OneMoreSays tt) (adjusted 18446744073709551615 0, (1, tt)) (adjusted 18446744073709551615 1) (adjusted 0 1)
  -- `OpenBatch::none`: a transaction that has not come; `OpenBatch::with_added`: the sum forgotten, a count that wraps
  pub no_transaction_lem : OneAnswer NoTransactionSays
  pub no_transaction_one : Tells (NoTransactionSays tt) tt (batch 0 0) (batch 1 0)
  pub no_transaction_sum : Tells (NoTransactionSays tt) tt (batch 0 0) (batch 0 10000)
  pub with_added : OneAnswer WithAddedSays
  pub with_added_forgotten : Tells (WithAddedSays tt) (batch 1 10000, (250, tt)) (batch 2 10250) (batch 2 250)
  pub with_added_wraps : Tells (WithAddedSays tt) (batch 18446744073709551615 0, (1, tt)) (batch 18446744073709551615 1) (batch 0 1)
  -- `OpenBatch::with_taken`: a debit added; what is left cut off at zero
  pub with_taken : OneAnswer WithTakenSays
  pub with_taken_added : Tells (WithTakenSays tt) (batch 1 10000, (975, tt)) (batch_of 2 10000 975) (batch 2 10975)
  pub with_taken_cut_off : Tells (WithTakenSays tt) (batch 1 250, (975, tt)) (batch_of 2 250 975) (batch 2 0)
  -- `OpenBatch::sums_to`: the absolute value of a sum below zero; such a sum cut off at zero; what is taken not looked at
  pub sums_to_lem : OneAnswer SumsToSays
  pub sums_to_absolute : Tells (SumsToSays tt) (batch_of 2 250 975, (725, tt)) false true
  pub sums_to_zero : Tells (SumsToSays tt) (batch_of 2 250 975, (0, tt)) false true
  pub sums_to_added : Tells (SumsToSays tt) (batch_of 2 10000 975, (10000, tt)) false true
  -- `Running::close`: a file closed in the middle of a batch; a closed file refused by a further close
  pub close : OneAnswer CloseSays
  pub close_in_batch : Tells (CloseSays tt) (state InBatch 3 one_sale, tt) (state (Refused (refusal EndsTooEarly 4 0)) 3 one_sale) (state Closed 3 one_sale)
  pub close_again : Tells (CloseSays tt) (state Closed 5 one_sale, tt) (state Closed 5 one_sale) (state (Refused (refusal EndsTooEarly 6 0)) 5 one_sale)
  -- `Running::answer`: accepted before the close; the records counted as sales; a refused file's totals told; a forecast told as settled
  pub answer : OneAnswer AnswerSays
  pub answer_early : Tells (AnswerSays tt) (state Ended 5 one_sale, tt) None (accepted 5 0 one_sale)
  pub answer_sales : Tells (AnswerSays tt) (state Closed 5 one_sale, tt) (accepted 5 0 one_sale) (accepted 5 0 (settled 5 (amounts 10000 250 9750)))
  pub answer_refused : Tells (AnswerSays tt) (state (Refused (refusal SequenceWrong 4 194)) 3 one_sale, tt) (Some (Err (refusal SequenceWrong 4 194))) (accepted 3 0 one_sale)
  pub answer_forecast : Tells (AnswerSays tt) (state Closed 5 one_forecast, tt) (accepted 5 0 one_forecast) (accepted 5 0 one_sale)
  -- `Stage::is_open`: open behind A9; shut at the start
  pub is_open : OneAnswer IsOpenSays
  pub is_open_ended : Tells (IsOpenSays tt) (Ended, tt) false true
  pub is_open_start : Tells (IsOpenSays tt) (Start, tt) true false
  -- `Stage::allows`: a sale between batches, an adjustment before L0, and none in a batch; no trailer in a batch; no header at the start
  pub allows : OneAnswer AllowsSays
  pub allows_adjustment : Tells (AllowsSays tt) (BetweenBatches, (Aj, tt)) false true
  pub allows_no_adjustment : Tells (AllowsSays tt) (InBatch, (Aj, tt)) true false
  pub allows_sale : Tells (AllowsSays tt) (BetweenBatches, (Cv, tt)) false true
  pub allows_trailer : Tells (AllowsSays tt) (InBatch, (L9, tt)) true false
  pub allows_header : Tells (AllowsSays tt) (Start, (A0, tt)) true false
