-- The running state: at which stage it opens, is refused, and is closed.
use Rattle.std.specs.Prelude.{ℕ, Ok, Err}
use Rattle.refusal.specs.declared.Cause.{Cause}
use Rattle.refusal.specs.declared.Cause.TheVariants.{EndsTooEarly, BytesAfterTheEnd}
use Rattle.refusal.specs.Fault.{Judged}
use Rattle.refusal.specs.Nowhere.{nowhere}
use Rattle.totals.specs.declared.two_sets.TwoSets.{TwoSets}
use Rattle.totals.specs.Sum.{capped}
use Rattle.totals.specs.TwoSets.{no_sets}
use Rattle.edition.specs.Known.{edition_fault}
use Rattle.card_run.specs.declared.stage.Stage.{Stage}
use Rattle.card_run.specs.declared.stage.Stage.TheVariants.{Start, BetweenBatches, InBatch, Ended, Closed, Refused}
use Rattle.card_run.specs.declared.adjusted.Adjusted.{Adjusted}
use Rattle.card_run.specs.declared.answer.Accepted.{Accepted}
use Rattle.card_run.specs.declared.batch.OpenBatch.{OpenBatch}
use Rattle.card_run.specs.declared.running.Running.{Running}
use Rattle.card_run.specs.Adjusted.{no_adjustment}
use Rattle.card_run.specs.Batch.{no_transaction}

-- "A bad edition is refused, 1, from the start", and a retired one by 22
abbrev pub open_at : Judged → Stage
open_at (Ok none) = Start
open_at (Err fault) = Refused (nowhere fault.cause)

abbrev pub open_stage : ℕ → Stage
open_stage edition = open_at (edition_fault edition)

-- the numbers of a file, in the answer's order
abbrev pub numbers_of : ℕ → ℕ → ℕ → ℕ → TwoSets → Adjusted → Adjusted → Accepted
numbers_of date movement records batches totals credits debits =
    record { date = date; movement = movement; records = records; batches = batches; totals = totals; credits = credits; debits = debits }

-- nothing has come
abbrev pub no_numbers : Accepted
no_numbers = numbers_of 0 0 0 0 no_sets no_adjustment no_adjustment

abbrev pub open_of : ℕ → Running
open_of edition = record { stage = open_stage edition; edition = edition; numbers = no_numbers; batch = no_transaction }

-- the number of the record that comes next; it stays at the top of 64 bits
abbrev pub next_number : Running → ℕ
next_number st = capped st.numbers.records 1

-- the same file at a stage, with these numbers and this open batch
abbrev pub moved : Stage → Accepted → OpenBatch → Running → Running
moved stage numbers batch st = record { stage = stage; edition = st.edition; numbers = numbers; batch = batch }

-- at another stage alone
abbrev pub staged : Stage → Running → Running
staged stage st = moved stage st.numbers st.batch st

-- refused at the record that comes next
abbrev pub refused_at : Cause → ℕ → Running → Running
refused_at cause column st = staged (Refused (record { cause = cause; «record» = next_number st; column = column })) st

-- bytes that come when none are expected: after A9 they are 13; "Once refused, every later call gives that same refusal"
unfoldable pub late_at : Stage → Running → Running
late_at Start st = st
late_at BetweenBatches st = st
late_at InBatch st = st
late_at Ended st = refused_at BytesAfterTheEnd 0 st
late_at Closed st = refused_at BytesAfterTheEnd 0 st
late_at (Refused r) st = st

abbrev pub late_of : Running → Running
late_of st = late_at st.stage st

-- "closing gives 12 or the file's answer"; "a further close the same answer"
unfoldable pub closed_at : Stage → Running → Running
closed_at Start st = refused_at EndsTooEarly 0 st
closed_at BetweenBatches st = refused_at EndsTooEarly 0 st
closed_at InBatch st = refused_at EndsTooEarly 0 st
closed_at Ended st = staged Closed st
closed_at Closed st = st
closed_at (Refused r) st = st

abbrev pub closed_of : Running → Running
closed_of st = closed_at st.stage st
