-- The state of a payroll file that is given record by record, as twenty numbers, which a caller keeps from one call to the next.
use Rattle.std.specs.Prelude.{ℕ, List, [], ◌∷◌, ◌++◌, cond, not, get_or, eqb, Some, None, Ok, Err}
use Rattle.refusal.specs.Row.{RefusalRow, no_refusal, refusal_row}
use Rattle.payroll_run.specs.declared.stage.Stage.{Stage}
use Rattle.payroll_run.specs.declared.stage.Stage.TheVariants.{Start, BetweenBatches, InBatch, BehindA, BehindB, Ended, Refused}
use Rattle.payroll_run.specs.declared.running.Running.{Running}
use Rattle.payroll_stream.specs.Stream.{PayrollProgress}
use Rattle.payroll_stream.specs.declared.feeding.Feeding.{Feeding}
use Rattle.answer_rows.specs.Row.{refusal_as_list, as_number}
use Rattle.answer_rows.specs.Payroll.{progress_numbers}
use Rattle.state_numbers.specs.Refusal.{refusal_from}

-- no stage has the number 0, so that numbers which no call has written are none
abbrev pub stage_number : Stage → ℕ
stage_number Start = 1
stage_number BetweenBatches = 2
stage_number InBatch = 3
stage_number BehindA = 4
stage_number BehindB = 5
stage_number Ended = 6
stage_number (Refused r) = 7

-- the refusal at a stage, or zeros
abbrev pub stage_refusal : Stage → RefusalRow
stage_refusal Start = no_refusal
stage_refusal BetweenBatches = no_refusal
stage_refusal InBatch = no_refusal
stage_refusal BehindA = no_refusal
stage_refusal BehindB = no_refusal
stage_refusal Ended = no_refusal
stage_refusal (Refused r) = refusal_row r

-- the stage, its refusal, whether it is a return, the counts and sums of the file and of the open batch
abbrev pub running_numbers : Running → List ℕ
running_numbers st =
    (stage_number st.stage ∷ refusal_as_list (stage_refusal st.stage)) ++
    (as_number st.is_return ∷ st.records ∷ st.batches ∷ st.payments ∷ st.amount ∷
    st.batch.records ∷ st.batch.details ∷ st.batch.sum ∷ [])

-- and behind them the row of the answer, once there is one
unfoldable pub feeding_numbers : Feeding → List ℕ
feeding_numbers f = running_numbers f.state ++ progress_numbers f.progress

-- a number that is no stage's is a refusal: by 1 at 0, 0 where all is zero
unfoldable pub stage_of : List ℕ → Stage
stage_of l =
    cond (eqb (get_or l 0 0) 1) Start
    (cond (eqb (get_or l 0 0) 2) BetweenBatches
    (cond (eqb (get_or l 0 0) 3) InBatch
    (cond (eqb (get_or l 0 0) 4) BehindA
    (cond (eqb (get_or l 0 0) 5) BehindB
    (cond (eqb (get_or l 0 0) 6) Ended (Refused (refusal_from 1 l)))))))

-- the running state of any numbers
unfoldable pub running_of : List ℕ → Running
running_of l =
    record {
      stage = stage_of l;
      is_return = not (eqb (get_or l 4 0) 0);
      records = get_or l 5 0;
      batches = get_or l 6 0;
      payments = get_or l 7 0;
      amount = get_or l 8 0;
      batch = record { records = get_or l 9 0; details = get_or l 10 0; sum = get_or l 11 0 };
    }

-- and the answer that stands behind it: accepted, refused, or none yet
unfoldable pub progress_of : List ℕ → PayrollProgress
progress_of l =
    cond (eqb (get_or l 19 0) 0)
    (cond (eqb (get_or l 12 0) 0) None (Some (Err (refusal_from 12 l))))
    (Some (Ok (record { records = get_or l 15 0; batches = get_or l 16 0; payments = get_or l 17 0; amount = get_or l 18 0 })))

abbrev pub feeding_of : List ℕ → Feeding
feeding_of l = record { state = running_of l; progress = progress_of l }
