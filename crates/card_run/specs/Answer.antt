-- The answer of a card file, and the row that document 01 gives for each.
use Rattle.std.specs.Prelude.{Bool, true, false, Option, Some, None, Result, Ok, Err}
use Rattle.refusal.specs.declared.Refusal.{Refusal}
use Rattle.refusal.specs.Row.{RefusalRow, no_refusal, refusal_row}
use Rattle.card_run.specs.declared.stage.Stage.{Stage}
use Rattle.card_run.specs.declared.stage.Stage.TheVariants.{Start, BetweenBatches, InBatch, Ended, Closed, Refused}
use Rattle.card_run.specs.declared.running.Running.{Running}
use Rattle.card_run.specs.declared.answer.Accepted.{Accepted as Numbers}
use Rattle.card_run.specs.Running.{no_numbers}

-- none yet, or the numbers of an accepted file, or its refusal
abbrev pub CardAnswer : Type 0
CardAnswer = Option (Result Numbers Refusal)

-- the answer at a stage: the refusal, the file's numbers once it is closed, or none yet
unfoldable pub answer_at : Stage → Running → CardAnswer
answer_at Start st = None
answer_at BetweenBatches st = None
answer_at InBatch st = None
answer_at Ended st = None
answer_at Closed st = Some (Ok st.numbers)
answer_at (Refused r) st = Some (Err r)

abbrev pub answer_of : Running → CardAnswer
answer_of st = answer_at st.stage st

-- the paper's row of a card file's answer: whether the file is accepted, the refusal's number, record and column, and the file's numbers
pub record CardFileRow : Type 0 where
  pub accepted : Bool
  pub refusal : RefusalRow
  pub numbers : Numbers

-- none yet: neither a refusal nor numbers
abbrev pub going_on_row : CardFileRow
going_on_row = record { accepted = false; refusal = no_refusal; numbers = no_numbers }

-- "All counts and totals in a refused answer are zero"; "a refused answer has zeros for all"
abbrev pub refused_row : Refusal → CardFileRow
refused_row r = record { accepted = false; refusal = refusal_row r; numbers = no_numbers }

unfoldable pub card_file_row : CardAnswer → CardFileRow
card_file_row None = going_on_row
card_file_row (Some (Ok a)) = record { accepted = true; refusal = no_refusal; numbers = a }
card_file_row (Some (Err r)) = refused_row r
