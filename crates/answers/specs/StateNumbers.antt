-- What the contracts of states as numbers, there and back, are held to. Behind a function's name: the wrong programs that are ruled out.
use Rattle.std.specs.Prelude.{ℕ, List, [], ◌∷◌, true, replicate, Err, None, Some}
use Rattle.refusal.specs.declared.Cause.TheVariants.{EditionUnknown, SequenceWrong, BytesAfterTheEnd}
use Rattle.totals.specs.declared.two_sets.TwoSets.{TwoSets}
use Rattle.card_run.specs.declared.stage.Stage.{Stage as CardStage}
use Rattle.card_run.specs.declared.stage.Stage.TheVariants.{Start, InBatch, Refused}
use Rattle.card_run.specs.declared.running.Running.{Running as CardRunning}
use Rattle.payroll_run.specs.declared.stage.Stage.TheVariants.{Start as AtStart, BetweenBatches, Ended, Refused as Stopped}
use Rattle.payroll_run.specs.declared.running.Running.{Running as PayrollRunning}
use Rattle.payroll_stream.specs.declared.feeding.Feeding.{Feeding}
use Rattle.answers.specs.CardRun.{adjusted, numbers_with, batch, refusal, one_sale, one_forecast, opened}
use Rattle.answers.specs.PayrollFile.{state, opened as payroll_opened, accepted}
use base.Fml.{Lft}
use Rattle.state_numbers.specs.contracts.card.numbers as CardNumbers
use Rattle.state_numbers.specs.contracts.card.state_of as CardStateOf
use Rattle.state_numbers.specs.contracts.payroll.numbers as PayrollNumbers
use Rattle.state_numbers.specs.contracts.payroll.feeding_of as FeedingOf
use borrow.Fn.Read.{r_last}
use Rattle.answers.specs.Held.{Claim, fact_of, logic, memory, run, OneAnswer, Tells, lent, one}
use Rattle.payroll_stream.specs.Stream.{PayrollProgress}

-- what each contract says
abbrev CardNumbersSays : Claim CardNumbers.ended
CardNumbersSays κs a r s = fact_of ((CardNumbers.clauses logic memory run κs a).ensures tt r s) (r_last _)

abbrev CardStateOfSays : Claim CardStateOf.ended
CardStateOfSays κs a r s = fact_of ((CardStateOf.clauses logic memory run κs a).ensures tt r s) (r_last _)

abbrev PayrollNumbersSays : Claim PayrollNumbers.ended
PayrollNumbersSays κs a r s = fact_of ((PayrollNumbers.clauses logic memory run κs a).ensures tt r s) (r_last _)

abbrev FeedingOfSays : Claim FeedingOf.ended
FeedingOfSays κs a r s = fact_of ((FeedingOf.clauses logic memory run κs a).ensures tt r s) (r_last _)

-- a card file at a stage, behind a sale and a credit
abbrev card_state : CardStage → TwoSets → CardRunning
card_state stage totals =
    record { stage = stage; edition = 2; numbers = numbers_with 4 0 totals (adjusted 1 975) (adjusted 0 0); batch = batch 2 10975 }

-- its numbers, with the numbers of a stage and of a refusal
abbrev card_list : ℕ → ℕ → ℕ → ℕ → List ℕ
card_list stage number at column =
    stage ∷ number ∷ at ∷ column ∷ 2 ∷ 20240229 ∷ 1 ∷ 4 ∷ 0 ∷ 0 ∷ 0 ∷ 0 ∷ 0 ∷ 1 ∷ 10000 ∷ 250 ∷ 9750 ∷ 1 ∷ 975 ∷ 0 ∷ 0 ∷ 2 ∷ 10975 ∷ 0 ∷ []

-- a payroll file with an answer or none, and behind the header of a return
abbrev pub feeding : PayrollRunning → PayrollProgress → Feeding
feeding st progress = record { state = st; progress = progress }

abbrev returned : Feeding
returned =
    record {
      state =
          record {
            stage = BetweenBatches;
            is_return = true;
            records = 1;
            batches = 0;
            payments = 0;
            amount = 0;
            batch = record { records = 0; details = 0; sum = 0 };
          };
      progress = None;
    }

-- its numbers, with a number for the return; and those of a file that has ended, with a refusal and whether the file is accepted
abbrev returned_list : ℕ → List ℕ
returned_list flag = 2 ∷ 0 ∷ 0 ∷ 0 ∷ flag ∷ 1 ∷ 0 ∷ 0 ∷ 0 ∷ 0 ∷ 0 ∷ 0 ∷ 0 ∷ 0 ∷ 0 ∷ 0 ∷ 0 ∷ 0 ∷ 0 ∷ 0 ∷ []

abbrev accepted_list : List ℕ
accepted_list = 6 ∷ 0 ∷ 0 ∷ 0 ∷ 0 ∷ 5 ∷ 1 ∷ 1 ∷ 10000 ∷ 3 ∷ 1 ∷ 10000 ∷ 0 ∷ 0 ∷ 0 ∷ 5 ∷ 1 ∷ 1 ∷ 10000 ∷ 1 ∷ []

abbrev refused_list : ℕ → ℕ → List ℕ
refused_list number at = 6 ∷ 0 ∷ 0 ∷ 0 ∷ 0 ∷ 5 ∷ 1 ∷ 1 ∷ 10000 ∷ 3 ∷ 1 ∷ 10000 ∷ number ∷ at ∷ 0 ∷ 0 ∷ 0 ∷ 0 ∷ 0 ∷ 0 ∷ []

pub record StateNumbers (κ : Lft) : Type 0 where
  -- `card::numbers`: stages numbered from 0, so that zeros are a file that goes on; a refusal without its record
  pub card_numbers_lem : OneAnswer CardNumbersSays
  pub card_from_zero : Tells (CardNumbersSays tt) (card_state InBatch one_sale, tt) (card_list 3 0 0 0) (card_list 2 0 0 0)
  pub card_refusal : Tells (CardNumbersSays tt) (card_state (Refused (refusal SequenceWrong 5 194)) one_sale, tt) (card_list 6 9 5 194) (card_list 6 9 0 194)
  -- `card::state_of`: zeros taken for an open file; a number that is no stage's taken for one; the settled for the forecasts
  pub card_state_of : OneAnswer CardStateOfSays
  pub card_of_zeros : Tells (CardStateOfSays (one κ)) (lent (replicate 24 0), tt) (opened (Refused (refusal EditionUnknown 0 0)) 0) (opened Start 0)
  pub card_of_no_stage : Tells (CardStateOfSays (one κ)) (lent (card_list 7 9 5 194), tt) (card_state (Refused (refusal SequenceWrong 5 194)) one_sale) (card_state InBatch one_sale)
  pub card_of_forecast : Tells (CardStateOfSays (one κ)) (lent (card_list 3 0 0 0), tt) (card_state InBatch one_sale) (card_state InBatch one_forecast)
  -- `payroll::numbers`: that it is a return left out; the answer left out
  pub payroll_numbers_lem : OneAnswer PayrollNumbersSays
  pub payroll_return : Tells (PayrollNumbersSays tt) (returned, tt) (returned_list 1) (returned_list 0)
  pub payroll_answer_lem : Tells (PayrollNumbersSays tt) (feeding (state Ended 5 3 1 10000) (Some (accepted 1 10000)), tt) accepted_list (refused_list 0 0)
  -- `payroll::feeding_of`: zeros taken for an open file; an accepted file taken for one that goes on; a refusal behind the end forgotten
  pub feeding_of_lem : OneAnswer FeedingOfSays
  pub feeding_of_zeros : Tells (FeedingOfSays (one κ)) (lent (replicate 20 0), tt) (feeding (payroll_opened (Stopped (refusal EditionUnknown 0 0))) None) (feeding (payroll_opened AtStart) None)
  pub feeding_of_accepted : Tells (FeedingOfSays (one κ)) (lent accepted_list, tt) (feeding (state Ended 5 3 1 10000) (Some (accepted 1 10000))) (feeding (state Ended 5 3 1 10000) None)
  pub feeding_of_refused : Tells (FeedingOfSays (one κ)) (lent (refused_list 13 6), tt) (feeding (state Ended 5 3 1 10000) (Some (Err (refusal BytesAfterTheEnd 6 0)))) (feeding (state Ended 5 3 1 10000) None)
