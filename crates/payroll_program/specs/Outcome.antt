-- What a stream's progress says of the file, and what comes of one whose last read is known.
use Rattle.std.specs.Prelude.{Bool, true, false, cond, None, Some, Result, Ok, Err}
use Rattle.files.specs.Loaded.{Got}
use Rattle.payroll_file.specs.Answer.{PayrollAnswer}
use Rattle.payroll_stream.specs.declared.Stream.{Stream}
use Rattle.payroll_stream.specs.Stream.{PayrollProgress, ended_of, answer_of}
use Rattle.program.specs.declared.mistake.Failed.TheVariants.{Read}
use Rattle.program.specs.declared.mistake.Mistake.{Mistake}
use Rattle.program.specs.declared.mistake.Mistake.TheVariants.{System}

-- the answer of a file, or why there is none
abbrev pub PayrollOutcome : Type 0
PayrollOutcome = Result PayrollAnswer Mistake

-- accepted or refused, and not going on
abbrev pub is_decided : PayrollProgress → Bool
is_decided None = false
is_decided (Some answer) = true

-- the outcome of a file that is decided; one that is going on was not read to its end
abbrev pub outcome_of : PayrollProgress → PayrollOutcome
outcome_of None = Err (System Read 0)
outcome_of (Some answer) = Ok answer

-- at the end of the file its answer; a failed read is not the end; and where bytes came, the answer only if no further byte can change it
unfoldable pub outcome_at : Got → Stream → PayrollOutcome
outcome_at (Ok None) stream = outcome_of (answer_of (ended_of stream))
outcome_at (Ok (Some n)) stream = cond (is_decided (answer_of stream)) (outcome_of (answer_of (ended_of stream))) (Err (System Read 0))
outcome_at (Err error) stream = Err (System Read error)
