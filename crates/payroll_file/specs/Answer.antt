-- The answer of a payroll file: the row that document 01 gives for each.
use Rattle.std.specs.Prelude.{Bool, true, false, Result, Ok, Err}
use Rattle.refusal.specs.declared.Refusal.{Refusal}
use Rattle.refusal.specs.Row.{RefusalRow, no_refusal, refusal_row}
use Rattle.payroll_run.specs.declared.stage.Stage.{Stage}
use Rattle.payroll_run.specs.declared.stage.Stage.TheVariants.{Start, BetweenBatches, InBatch, BehindA, BehindB, Ended, Refused as Stopped}
use Rattle.payroll_file.specs.declared.answer.Accepted.{Accepted as Numbers}

-- the answer of a file: its numbers, or why it is refused
abbrev pub PayrollAnswer : Type 0
PayrollAnswer = Result Numbers Refusal

-- whether the file is accepted, the refusal's number, record and column, and the file's counts and amount
pub record PayrollRow : Type 0 where
  pub accepted : Bool
  pub refusal : RefusalRow
  pub numbers : Numbers

abbrev pub no_numbers : Numbers
no_numbers = record { records = 0; batches = 0; payments = 0; amount = 0 }

-- none yet: neither a refusal nor numbers
abbrev pub going_on_row : PayrollRow
going_on_row = record { accepted = false; refusal = no_refusal; numbers = no_numbers }

-- "All counts and totals in a refused answer are zero"
abbrev pub refused_row : Refusal → PayrollRow
refused_row r = record { accepted = false; refusal = refusal_row r; numbers = no_numbers }

-- "The answer is records, batches, payments (A records) and amount"
unfoldable pub payroll_row : PayrollAnswer → PayrollRow
payroll_row (Ok a) = record { accepted = true; refusal = no_refusal; numbers = a }
payroll_row (Err r) = refused_row r

-- the row of a state, at its stage: refused, or none yet
unfoldable pub state_row : Stage → PayrollRow
state_row Start = going_on_row
state_row BetweenBatches = going_on_row
state_row InBatch = going_on_row
state_row BehindA = going_on_row
state_row BehindB = going_on_row
state_row Ended = going_on_row
state_row (Stopped r) = refused_row r
