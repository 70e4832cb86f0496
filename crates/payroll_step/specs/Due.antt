-- The rules of a payroll record that the file so far decides: its place, the numbers that are due in it, by position, and the limits behind them.
-- "batch 4-7, which is .. one more than the batches before it in a batch header, at most 9998, and the open batch's in the others (9). Detail number 9-13,
-- from 1 in each batch, rising by one (9). .. Batch trailer: 18-23 counts its records, header and trailer included; 24-41 sums the amounts of A. File trailer:
-- 18-23 batches; 24-29 all records." A count or a sum stays at the top of 64 bits, a number of twenty digits: no field holds it. "Sums are whole numbers:
-- one too large for 18 digits equals no trailer and is refused by 11."
use Rattle.std.specs.Prelude.{ℕ, ◌^◌, List, [], ◌∷◌, leb, ltb}
use Rattle.refusal.specs.declared.Cause.{Cause}
use Rattle.refusal.specs.declared.Cause.TheVariants.{KindNotAllowedHere, SequenceWrong, TrailerDisagrees}
use Rattle.refusal.specs.Rules.{Rule, rule_at}
use Rattle.totals.specs.Sum.{capped}
use Rattle.payroll_record.specs.declared.kind.Kind.{Kind}
use Rattle.payroll_record.specs.declared.kind.Kind.TheVariants.{
  FileHeader,
  BatchHeader,
  SegmentA,
  SegmentB,
  SegmentZ,
  BatchTrailer,
  FileTrailer,
}
use Rattle.payroll_run.specs.declared.running.Running.{Running}
use Rattle.payroll_run.specs.Stage.{placed}
use Rattle.payroll_run.specs.State.{next_number, next_batch}

-- 5, "kind not allowed at this place"
abbrev pub place_rule : Running → Kind → Rule
place_rule st kind = rule_at KindNotAllowedHere 0 (placed st.stage st.is_return kind)

-- a number that is due from a first to a last position, and the cause of a refusal where another stands there: "by the number given, trailer counts and sums by 11"
pub record Due : Type 0 where
  pub cause : Cause
  pub first : ℕ
  pub last : ℕ
  pub number : ℕ

abbrev pub due : Cause → ℕ → ℕ → ℕ → Due
due cause first last number = record { cause = cause; first = first; last = last; number = number }

-- "and the open batch's in the others (9)"
abbrev pub open_batch : Running → Due
open_batch st = due SequenceWrong 4 7 st.batches

-- a detail's, whichever its segment: "from 1 in each batch, rising by one"
abbrev pub due_in_detail : Running → List Due
due_in_detail st = open_batch st ∷ due SequenceWrong 9 13 (capped st.batch.details 1) ∷ []

-- the numbers that are due in a record of a kind, by position
abbrev pub due_of : Kind → Running → List Due
due_of FileHeader st = []
due_of BatchHeader st = due SequenceWrong 4 7 (next_batch st) ∷ []
due_of SegmentA st = due_in_detail st
due_of SegmentB st = due_in_detail st
due_of SegmentZ st = due_in_detail st
due_of BatchTrailer st =
    open_batch st ∷ due TrailerDisagrees 18 23 (capped st.batch.records 1) ∷ due TrailerDisagrees 24 41 st.batch.sum ∷ []
due_of FileTrailer st = due TrailerDisagrees 18 23 st.batches ∷ due TrailerDisagrees 24 29 (next_number st) ∷ []

-- the limits behind them: "at most 9998"; "an amount over the whole file of 10^19 or more is refused by 11 at the file trailer, column 0, after its fields"
abbrev pub limits_of : Kind → Running → List Rule
limits_of FileHeader st = []
limits_of BatchHeader st = rule_at SequenceWrong 4 (leb (next_batch st) 9998) ∷ []
limits_of SegmentA st = []
limits_of SegmentB st = []
limits_of SegmentZ st = []
limits_of BatchTrailer st = []
limits_of FileTrailer st = rule_at TrailerDisagrees 0 (ltb st.amount (10 ^ 19)) ∷ []
