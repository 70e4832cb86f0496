-- A payroll file's stream that has taken some chunks: its end answers for all of them joined.
use mathlib.Core.Path.{◌≡◌, refl, sym, ◌∙◌, ap, subst}
use mathlib.Core.Bool.{Bool, true, false, cond}
use Rattle.std.specs.Prelude.{None, Some, Result, Ok, Err}
use Rattle.chunks.specs.Chunks.{joined_chunks}
use Rattle.files.specs.Loaded.{Got}
use Rattle.payroll_stream.specs.declared.Stream.{Stream}
use Rattle.payroll_stream.specs.Stream.{open_of, taken_of, ended_of, answer_of}
use Rattle.payroll_stream.proofs.InChunks.{chunks_as_whole}
use Rattle.program.specs.declared.mistake.Mistake.{Mistake}
use Rattle.program.specs.declared.mistake.Mistake.TheVariants.{System}
use Rattle.program.specs.declared.mistake.Failed.TheVariants.{Read}
use Rattle.program.specs.Stream.{Taken, at_end}
use Rattle.payroll_program.specs.Outcome.{PayrollOutcome, is_decided, outcome_of, outcome_at}
use Rattle.payroll_program.specs.Checked.{Checked}

-- what comes of a file is the answer of its stream's end
abbrev pub answered : Result Stream Mistake → PayrollOutcome
answered (Ok stream) = outcome_of (answer_of stream)
answered (Err mistake) = Err mistake

pub at_end_answered : (got : Got) (stream : Stream) → answered (at_end ended_of (λ s. is_decided (answer_of s)) got stream) ≡ outcome_at got stream
unfolding outcome_at
at_end_answered (Ok None) stream = refl
at_end_answered (Ok (Some n)) stream = by (is_decided (answer_of stream))
  where
    by : (decided : Bool) → answered (cond decided (Ok (ended_of stream)) (Err (System Read 0))) ≡ cond decided (outcome_of (answer_of (ended_of stream))) (Err (System Read 0))
    by true = refl
    by false = refl
at_end_answered (Err error) stream = refl

ended : {stream : Stream} → Taken taken_of open_of stream → Checked (outcome_of (answer_of (ended_of stream)))
ended w =
    let answer = ap answer_of (ap ended_of w.so_far_lem) ∙ chunks_as_whole w.chunks in
    subst Checked (sym (ap outcome_of answer)) (joined_chunks w.chunks, refl)

-- so whatever comes of its last read is as promised
pub checked : (got : Got) {stream : Stream} {outcome : PayrollOutcome} → Taken taken_of open_of stream → outcome ≡ outcome_at got stream → Checked outcome
unfolding outcome_at
checked got {stream} {outcome} w e = subst Checked (sym e) (at got)
  where
    by : (decided : Bool) → Checked (cond decided (outcome_of (answer_of (ended_of stream))) (Err (System Read 0)))
    by true = ended w
    by false = (Read, 0, refl)

    at : (g : Got) → Checked (outcome_at g stream)
    at (Ok None) = ended w
    at (Ok (Some n)) = by (is_decided (answer_of stream))
    at (Err error) = (Read, error, refl)
