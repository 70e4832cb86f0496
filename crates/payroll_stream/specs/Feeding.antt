-- A payroll file given record by record, without line ends, and then closed with what stands behind the last of them: a state, and the answer once there is one.
use Rattle.std.specs.Prelude.{ℕ, Some, None}
use mathlib.Core.List.{List, foldl}
use Rattle.payroll_record.specs.Reading.{reading_of}
use Rattle.payroll_run.specs.State.{opened}
use Rattle.payroll_step.specs.Step.{took_of}
use Rattle.payroll_file.specs.PayrollFile.{end_of}
use Rattle.payroll_stream.specs.declared.feeding.Feeding.{Feeding}
use Rattle.payroll_stream.specs.Stream.{PayrollProgress, behind_end, answer_at}

-- nothing has come
abbrev pub open_feeding : Feeding
open_feeding = record { state = opened; progress = None }

-- the next record's bytes, whatever they are; behind a close a record is 13, "bytes after the end", and a refusal stays
unfoldable pub fed_at : PayrollProgress → Feeding → List ℕ → Feeding
fed_at None f r = record { state = took_of f.state (reading_of r); progress = None }
fed_at (Some answer) f r = record { state = f.state; progress = Some (behind_end f.state answer) }

abbrev pub fed_of : Feeding → List ℕ → Feeding
fed_of f r = fed_at f.progress f r

-- one record after the other
abbrev pub fed_all : Feeding → List (List ℕ) → Feeding
fed_all f records = foldl fed_of f records

-- the close, with what stands behind the last line end: "one byte 1A and nothing more"; a further close changes nothing
unfoldable pub closed_at : PayrollProgress → Feeding → List ℕ → Feeding
closed_at None f rest = record { state = f.state; progress = Some (end_of f.state rest) }
closed_at (Some answer) f rest = f

abbrev pub closed_with : Feeding → List ℕ → Feeding
closed_with f rest = closed_at f.progress f rest

-- the answer so far
abbrev pub answer_of : Feeding → PayrollProgress
answer_of f = answer_at f.progress f.state
