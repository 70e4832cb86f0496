-- What one record, taken at its place, makes of the running state.
use Rattle.std.specs.Prelude.{Ok, Err}
use Rattle.refusal.specs.declared.Cause.TheVariants.{BytesAfterTheEnd}
use Rattle.refusal.specs.Fault.{Judged}
use Rattle.refusal.specs.Rules.{first_broken}
use Rattle.payroll_record.specs.declared.reading.Reading.{Reading}
use Rattle.payroll_run.specs.declared.stage.Stage.{Stage}
use Rattle.payroll_run.specs.declared.stage.Stage.TheVariants.{Start, BetweenBatches, InBatch, BehindA, BehindB, Ended, Refused}
use Rattle.payroll_run.specs.declared.running.Running.{Running}
use Rattle.payroll_run.specs.State.{refused_at}
use Rattle.payroll_run.specs.Behind.{behind}
use Rattle.payroll_step.specs.Rules.{rules_of}

-- behind the record, or refused at the first fault
unfoldable pub behind_or_refused : Running → Reading → Judged → Running
behind_or_refused st reading (Ok none) = behind st reading
behind_or_refused st reading (Err fault) = refused_at fault.cause fault.column st

abbrev pub judged_of : Running → Reading → Running
judged_of st reading = behind_or_refused st reading (first_broken (rules_of st reading))

-- a record after the file trailer is 13; once refused, refused for good
unfoldable pub took_at : Stage → Running → Reading → Running
took_at Start st reading = judged_of st reading
took_at BetweenBatches st reading = judged_of st reading
took_at InBatch st reading = judged_of st reading
took_at BehindA st reading = judged_of st reading
took_at BehindB st reading = judged_of st reading
took_at Ended st reading = refused_at BytesAfterTheEnd 0 st
took_at (Refused r) st reading = st

abbrev pub took_of : Running → Reading → Running
took_of st reading = took_at st.stage st reading
