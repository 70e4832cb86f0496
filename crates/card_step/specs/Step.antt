-- One step: what a record, taken at its place, makes of the state.
use Rattle.std.specs.Prelude.{cond, Ok, Err}
use Rattle.refusal.specs.Fault.{Judged}
use Rattle.refusal.specs.Rules.{first_broken}
use Rattle.card_record.specs.declared.reading.Reading.{Reading}
use Rattle.card_run.specs.declared.stage.Stage.{Stage}
use Rattle.card_run.specs.declared.running.Running.{Running}
use Rattle.card_run.specs.Stage.{is_open}
use Rattle.card_run.specs.Running.{refused_at, late_at}
use Rattle.card_step.specs.Rules.{rules_of}
use Rattle.card_step.specs.Behind.{behind}

-- refused at the first fault, or behind the record
unfoldable pub behind_or_refused : Running → Reading → Judged → Running
behind_or_refused st reading (Ok none) = behind st reading
behind_or_refused st reading (Err fault) = refused_at fault.cause fault.column st

abbrev pub judged_of : Running → Reading → Running
judged_of st reading = behind_or_refused st reading (first_broken (rules_of st reading))

-- a record that is expected is judged; any other comes late
unfoldable pub took_at : Stage → Running → Reading → Running
took_at stage st reading = cond (is_open stage) (judged_of st reading) (late_at stage st)

abbrev pub took_of : Running → Reading → Running
took_of st reading = took_at st.stage st reading
