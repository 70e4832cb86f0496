-- A payroll file in chunks: a state, what is held of the record that has not ended, and the answer once there is one.
use Rattle.std.specs.Prelude.{ℕ, List, [], ◌∷◌, Option, Some, None, Ok, Err}
use Rattle.refusal.specs.declared.Cause.TheVariants.{BytesAfterTheEnd}
use Rattle.chunks.specs.declared.Unfinished.{Unfinished}
use Rattle.chunks.specs.Unfinished.{held_by, holding}
use Rattle.chunks.specs.Chunks.{Run, start_of, ran_over}
use Rattle.payroll_run.specs.declared.stage.Stage.{Stage}
use Rattle.payroll_run.specs.declared.stage.Stage.TheVariants.{Start, BetweenBatches, InBatch, BehindA, BehindB, Ended, Refused}
use Rattle.payroll_run.specs.declared.running.Running.{Running}
use Rattle.payroll_run.specs.State.{opened, refusal_at}
use Rattle.payroll_file.specs.Answer.{PayrollAnswer, PayrollRow, going_on_row, payroll_row}
use Rattle.payroll_file.specs.PayrollFile.{line_of, end_of}
use Rattle.payroll_stream.specs.declared.Stream.{Stream}

-- the answer of a file that comes; none as long as nothing is refused and the end has not come
abbrev pub PayrollProgress : Type 0
PayrollProgress = Option PayrollAnswer

-- a run over pieces as a stream that goes on
abbrev pub going_on : Run Running → Stream
going_on run = record { state = run.state; held = holding run.held; progress = None }

-- nothing has come
abbrev pub open_of : Stream
open_of = going_on (start_of opened)

-- the next bytes: each piece before an LF is taken as reading the whole takes it
abbrev pub ran_on : Running → Unfinished → List ℕ → Stream
ran_on st held chunk = going_on (ran_over line_of (record { state = st; held = held_by held }) chunk)

-- the same with an answer
abbrev pub answered_by : Stream → PayrollAnswer → Stream
answered_by s answer = record { state = s.state; held = s.held; progress = Some answer }

-- 13, "bytes after the end": those that come after an accepted end
unfoldable pub behind_end : Running → PayrollAnswer → PayrollAnswer
behind_end st (Ok a) = Err (refusal_at BytesAfterTheEnd 0 st)
behind_end st (Err r) = Err r

unfoldable pub taken_behind_end : Stream → PayrollAnswer → List ℕ → Stream
taken_behind_end s answer [] = s
taken_behind_end s answer (b ∷ chunk) = answered_by s (behind_end s.state answer)

unfoldable pub taken_at : PayrollProgress → Stream → List ℕ → Stream
taken_at None s chunk = ran_on s.state s.held chunk
taken_at (Some answer) s chunk = taken_behind_end s answer chunk

abbrev pub taken_of : Stream → List ℕ → Stream
taken_of s chunk = taken_at s.progress s chunk

-- the end: what is left is taken as reading the whole takes it; a further end changes nothing
unfoldable pub ended_at : PayrollProgress → Stream → Stream
ended_at None s = answered_by s (end_of s.state (held_by s.held))
ended_at (Some answer) s = s

abbrev pub ended_of : Stream → Stream
ended_of s = ended_at s.progress s

-- before the end: a refusal stands at once
unfoldable pub so_far : Stage → PayrollProgress
so_far Start = None
so_far BetweenBatches = None
so_far InBatch = None
so_far BehindA = None
so_far BehindB = None
so_far Ended = None
so_far (Refused r) = Some (Err r)

-- the answer so far
unfoldable pub answer_at : PayrollProgress → Running → PayrollProgress
answer_at None st = so_far st.stage
answer_at (Some answer) st = Some answer

abbrev pub answer_of : Stream → PayrollProgress
answer_of s = answer_at s.progress s.state

-- the paper's row of the answer so far: none yet, or the answer's
unfoldable pub progress_row : PayrollProgress → PayrollRow
progress_row None = going_on_row
progress_row (Some answer) = payroll_row answer
