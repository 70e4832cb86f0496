-- The numbers of a state are that state again, and so is what keeps a stream; numbers that no call has written are a refusal. By cases of the stage and of the answer.
use Prim.Native.Nat.{ℕ}
use mathlib.Core.Path.{◌≡◌, refl, ap, ◌∙◌}
use mathlib.Core.List.{List, [], ◌∷◌, ◌++◌}
use mathlib.Core.Bool.{Bool, true, false, not}
use native.Mathlib.Omega.{arith}
use lib.ListN.{replicate}
use lib.Dec.{eqb}
use borrow.Author.Tests.{ne_eqb}
use Rattle.std.specs.Prelude.{Ok, Err, Some, None}
use Rattle.refusal.specs.declared.Refusal.{Refusal}
use Rattle.refusal.specs.declared.Cause.TheVariants.{EditionUnknown}
use Rattle.refusal.specs.Nowhere.{nowhere}
use Rattle.refusal.specs.RefusalList.{number_of}
use Rattle.refusal.proofs.RefusalList.{listed, from_one}
use Rattle.chunks.specs.Unfinished.{held_by}
use Rattle.card_run.specs.declared.stage.Stage.{Stage as CardStage}
use Rattle.card_run.specs.declared.stage.Stage.TheVariants.{Start, BetweenBatches, InBatch, Ended, Closed, Refused}
use Rattle.card_run.specs.declared.running.Running.{Running as CardRunning}
use Rattle.card_run.specs.Answer.{answer_at, answer_of}
use Rattle.card_stream.specs.declared.Stream.{Stream as CardStream}
use Rattle.card_stream.specs.Stream.{behind_end, with_held, answer_of as card_answer}
use Rattle.payroll_run.specs.declared.stage.Stage.{Stage as PayrollStage}
use Rattle.payroll_run.specs.declared.stage.Stage.TheVariants.{Start as AtStart, BetweenBatches as Between, InBatch as In, BehindA, BehindB, Ended as AtEnd, Refused as Stopped}
use Rattle.payroll_run.specs.declared.running.Running.{Running as PayrollRunning}
use Rattle.payroll_file.specs.Answer.{payroll_row}
use Rattle.payroll_stream.specs.declared.Stream.{Stream as PayrollStream}
use Rattle.payroll_stream.specs.declared.feeding.Feeding.{Feeding}
use Rattle.payroll_stream.specs.Stream.{PayrollProgress, progress_row, so_far, answer_at as payroll_at, answer_of as payroll_answer}
use Rattle.payroll_stream.specs.Feeding.{answer_of as feeding_answer}
use Rattle.answer_rows.specs.Row.{refusal_as_list, as_number}
use Rattle.answer_rows.specs.Payroll.{progress_numbers}
use Rattle.state_numbers.specs.Refusal.{refusal_of}
use Rattle.state_numbers.specs.CardState.{stage_number, stage_refusal, state_numbers, stage_of, state_of}
use Rattle.state_numbers.specs.PayrollState.{
  stage_number as payroll_number,
  stage_refusal as payroll_refusal,
  running_numbers,
  feeding_numbers,
  stage_of as payroll_stage,
  running_of,
  progress_of,
  feeding_of,
}
use Rattle.state_numbers.specs.Streams.{card_stream, payroll_stream, KeepsCard, KeepsPayroll}

refusal_again : (r : Refusal) → refusal_of (number_of r.cause) r.«record» r.column ≡ r
refusal_again r = λ i. record { cause = listed r.cause EditionUnknown i; «record» = r.«record»; column = r.column }

-- a card file's stage, whatever stands behind its numbers
card_stage : (s : CardStage) (l : List ℕ) → stage_of ((stage_number s ∷ refusal_as_list (stage_refusal s)) ++ l) ≡ s
unfolding stage_of
card_stage Start l = refl
card_stage BetweenBatches l = refl
card_stage InBatch l = refl
card_stage Ended l = refl
card_stage Closed l = refl
card_stage (Refused r) l = ap Refused (refusal_again r)

pub state_again : (st : CardRunning) → state_of (state_numbers st) ≡ st
unfolding state_of state_numbers
state_again st =
    let stage : stage_of (state_numbers st) ≡ st.stage = card_stage st.stage _ in
    λ i. record { stage = stage i; edition = st.edition; numbers = st.numbers; batch = st.batch }

-- and a payroll file's
payroll_stage_lem : (s : PayrollStage) (l : List ℕ) → payroll_stage ((payroll_number s ∷ refusal_as_list (payroll_refusal s)) ++ l) ≡ s
unfolding payroll_stage
payroll_stage_lem AtStart l = refl
payroll_stage_lem Between l = refl
payroll_stage_lem In l = refl
payroll_stage_lem BehindA l = refl
payroll_stage_lem BehindB l = refl
payroll_stage_lem AtEnd l = refl
payroll_stage_lem (Stopped r) l = ap Stopped (refusal_again r)

pub flag_again : (b : Bool) → not (eqb (as_number b) 0) ≡ b
flag_again true = refl
flag_again false = refl

running_again : (st : PayrollRunning) (l : List ℕ) → running_of (running_numbers st ++ l) ≡ st
unfolding running_of
running_again st l =
    let stage : payroll_stage (running_numbers st ++ l) ≡ st.stage = payroll_stage_lem st.stage _ in
    λ i. record {
      stage = stage i;
      is_return = flag_again st.is_return i;
      records = st.records;
      batches = st.batches;
      payments = st.payments;
      amount = st.amount;
      batch = st.batch;
    }

-- the answer behind a state: a refusal is told from none by its number
progress_again : (st : PayrollRunning) (p : PayrollProgress) → progress_of (running_numbers st ++ progress_numbers p) ≡ p
unfolding progress_of progress_row payroll_row
progress_again st None = refl
progress_again st (Some (Ok a)) = refl
progress_again st (Some (Err r)) =
    let no : number_of r.cause ≡ 0 → ⊥ = λ e. omega (arith, from_one r.cause) in
    rw (ne_eqb _ _ no) (ap (λ r. Some (Err r)) (refusal_again r))

pub feeding_again : (f : Feeding) → feeding_of (feeding_numbers f) ≡ f
unfolding feeding_numbers
feeding_again f = λ i. record { state = running_again f.state (progress_numbers f.progress) i; progress = progress_again f.state f.progress i }

-- what keeps a stream is that stream again
pub card_again : {s : CardStream} {numbers : List ℕ} {waiting : ℕ} {bytes : List ℕ} → KeepsCard s numbers waiting bytes → card_stream numbers waiting bytes ≡ s
card_again {s} k =
    let state = ap state_of k.in_numbers ∙ state_again s.state in
    λ i. record { state = state i; held = record { bytes = k.is_held i; length = k.waits i } }

pub payroll_again : {s : PayrollStream} {numbers : List ℕ} {waiting : ℕ} {bytes : List ℕ} → KeepsPayroll s numbers waiting bytes →
    payroll_stream numbers waiting bytes ≡ s
payroll_again {s} k =
    let both = ap feeding_of k.in_numbers ∙ feeding_again (record { state = s.state; progress = s.progress }) in
    λ i. record { state = (both i).state; held = record { bytes = k.is_held i; length = k.waits i }; progress = (both i).progress }

-- numbers that no call has written: 1 at 0, 0
pub card_zeros : answer_of (state_of (replicate 24 0)) ≡ Some (Err (nowhere EditionUnknown))
unfolding state_of stage_of answer_at
card_zeros = refl

pub feeding_zeros : feeding_answer (feeding_of (replicate 20 0)) ≡ Some (Err (nowhere EditionUnknown))
unfolding running_of payroll_stage progress_of payroll_at so_far
feeding_zeros = refl

-- and in chunks, whatever waits
zeros_with : (held : List ℕ) → answer_of (with_held held (state_of (replicate 24 0))) ≡ Some (Err (nowhere EditionUnknown))
unfolding with_held behind_end state_of stage_of answer_at
zeros_with [] = refl
zeros_with (b ∷ held) = refl

pub card_stream_zeros : (waiting : ℕ) (bytes : List ℕ) → card_answer (card_stream (replicate 24 0) waiting bytes) ≡ Some (Err (nowhere EditionUnknown))
card_stream_zeros waiting bytes = zeros_with (held_by (record { bytes = bytes; length = waiting }))

pub payroll_stream_zeros : (waiting : ℕ) (bytes : List ℕ) →
    payroll_answer (payroll_stream (replicate 20 0) waiting bytes) ≡ Some (Err (nowhere EditionUnknown))
unfolding running_of payroll_stage progress_of payroll_at so_far
payroll_stream_zeros waiting bytes = refl
