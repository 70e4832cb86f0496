-- The running state of a card file as twenty-four numbers, which a caller keeps from one call to the next.
use Rattle.std.specs.Prelude.{ℕ, List, [], ◌∷◌, ◌++◌, cond, get_or, eqb}
use Rattle.refusal.specs.Row.{RefusalRow, no_refusal, refusal_row}
use Rattle.day_sheet.specs.Sheet.{totals_from}
use Rattle.card_run.specs.declared.stage.Stage.{Stage}
use Rattle.card_run.specs.declared.stage.Stage.TheVariants.{Start, BetweenBatches, InBatch, Ended, Closed, Refused}
use Rattle.card_run.specs.declared.answer.Accepted.{Accepted as Numbers}
use Rattle.card_run.specs.declared.running.Running.{Running}
use Rattle.answer_rows.specs.Row.{refusal_as_list}
use Rattle.answer_rows.specs.Card.{numbers_as_list}
use Rattle.state_numbers.specs.Refusal.{refusal_from}

-- no stage has the number 0, so that numbers which no call has written are none
abbrev pub stage_number : Stage → ℕ
stage_number Start = 1
stage_number BetweenBatches = 2
stage_number InBatch = 3
stage_number Ended = 4
stage_number Closed = 5
stage_number (Refused r) = 6

-- the refusal at a stage, or zeros
abbrev pub stage_refusal : Stage → RefusalRow
stage_refusal Start = no_refusal
stage_refusal BetweenBatches = no_refusal
stage_refusal InBatch = no_refusal
stage_refusal Ended = no_refusal
stage_refusal Closed = no_refusal
stage_refusal (Refused r) = refusal_row r

-- the stage, its refusal, the edition, the file's numbers so far, and the open batch
unfoldable pub state_numbers : Running → List ℕ
state_numbers st =
    (stage_number st.stage ∷ refusal_as_list (stage_refusal st.stage)) ++
    (st.edition ∷ (numbers_as_list st.numbers ++ (st.batch.transactions ∷ st.batch.added ∷ st.batch.taken ∷ [])))

-- a number that is no stage's is a refusal: by 1 at 0, 0 where all is zero
unfoldable pub stage_of : List ℕ → Stage
stage_of l =
    cond (eqb (get_or l 0 0) 1) Start
    (cond (eqb (get_or l 0 0) 2) BetweenBatches
    (cond (eqb (get_or l 0 0) 3) InBatch
    (cond (eqb (get_or l 0 0) 4) Ended
    (cond (eqb (get_or l 0 0) 5) Closed (Refused (refusal_from 1 l))))))

abbrev pub numbers_from : List ℕ → Numbers
numbers_from l =
    record {
      date = get_or l 5 0;
      movement = get_or l 6 0;
      records = get_or l 7 0;
      batches = get_or l 8 0;
      totals = record { forecast = totals_from 9 l; settled = totals_from 13 l };
      credits = record { count = get_or l 17 0; net = get_or l 18 0 };
      debits = record { count = get_or l 19 0; net = get_or l 20 0 };
    }

-- and the state of any numbers
unfoldable pub state_of : List ℕ → Running
state_of l =
    record {
      stage = stage_of l;
      edition = get_or l 4 0;
      numbers = numbers_from l;
      batch = record { transactions = get_or l 21 0; added = get_or l 22 0; taken = get_or l 23 0 };
    }
