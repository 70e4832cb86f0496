-- The running state of a payroll file, and how its parts change.
use Rattle.std.specs.Prelude.{ℕ, Bool, false}
use Rattle.refusal.specs.declared.Cause.{Cause}
use Rattle.refusal.specs.declared.Refusal.{Refusal}
use Rattle.totals.specs.Sum.{capped}
use Rattle.payroll_run.specs.declared.stage.Stage.{Stage}
use Rattle.payroll_run.specs.declared.stage.Stage.TheVariants.{Start, Refused}
use Rattle.payroll_run.specs.declared.running.Batch.{Batch}
use Rattle.payroll_run.specs.declared.running.Running.{Running}

abbrev pub no_batch : Batch
no_batch = record { records = 0; details = 0; sum = 0 }

-- a batch of which the header alone has come
abbrev pub new_batch : Batch
new_batch = record { records = 1; details = 0; sum = 0 }

-- nothing has come
abbrev pub opened : Running
opened = record { stage = Start; is_return = false; records = 0; batches = 0; payments = 0; amount = 0; batch = no_batch }

-- the same file at a stage, with these records, batches and payments, this amount and this open batch
abbrev pub moved : Stage → ℕ → ℕ → ℕ → ℕ → Batch → Running → Running
moved stage records batches payments amount batch st =
    record {
      stage = stage;
      is_return = st.is_return;
      records = records;
      batches = batches;
      payments = payments;
      amount = amount;
      batch = batch;
    }

-- the same as a return, or not
abbrev pub returned : Bool → Running → Running
returned is_return st =
    record {
      stage = st.stage;
      is_return = is_return;
      records = st.records;
      batches = st.batches;
      payments = st.payments;
      amount = st.amount;
      batch = st.batch;
    }

-- the same at another stage
abbrev pub staged : Stage → Running → Running
staged stage st = moved stage st.records st.batches st.payments st.amount st.batch st

-- the number of the record that comes next; it stays at the top of 64 bits
abbrev pub next_number : Running → ℕ
next_number st = capped st.records 1

-- "one more than the batches before it"
abbrev pub next_batch : Running → ℕ
next_batch st = capped st.batches 1

-- a refusal at the record that comes next
abbrev pub refusal_at : Cause → ℕ → Running → Refusal
refusal_at cause column st = record { cause = cause; «record» = next_number st; column = column }

-- refused at the record that comes next
abbrev pub refused_at : Cause → ℕ → Running → Running
refused_at cause column st = staged (Refused (refusal_at cause column st)) st

-- one record more of the open batch, and one detail more, of an amount
abbrev pub one_more : Batch → Batch
one_more b = record { records = capped b.records 1; details = b.details; sum = b.sum }

abbrev pub one_detail_more : ℕ → Batch → Batch
one_detail_more amount b = record { records = capped b.records 1; details = capped b.details 1; sum = capped b.sum amount }

-- one record more, of the file and of the open batch
abbrev pub counted : Stage → Running → Running
counted stage st = moved stage (next_number st) st.batches st.payments st.amount (one_more st.batch) st
