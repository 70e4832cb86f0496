-- FEEDING EQUALS THE WHOLE, of a payroll file: its records one by one, without line ends, and then the close, with what stands behind the last line end.
use Rattle.std.specs.Prelude.{ℕ, suc, ◌≡◌, List, [], ◌∷◌, ◌++◌, true, cond, not, ◌&&◌, length, leb, eqb}
use Rattle.refusal.specs.declared.Cause.TheVariants.{BytesAfterTheEnd}
use Rattle.refusal.specs.declared.Refusal.{Refusal}
use Rattle.lines.specs.Lines.{joined, no_lf}
use Rattle.payroll_run.specs.State.{next_number, refusal_at}
use Rattle.payroll_file.specs.Answer.{PayrollRow, going_on_row, refused_row, payroll_row}
use Rattle.payroll_file.specs.PayrollFile.{check_of}
use Rattle.payroll_stream.specs.declared.feeding.Feeding.{Feeding}
use Rattle.payroll_stream.specs.Stream.{progress_row}
use Rattle.payroll_stream.specs.Feeding.{open_feeding, fed_of, fed_all, closed_with, answer_of}

-- of the row of reading the whole, the refusal at one of the first k records, or none
abbrev pub payroll_up_to : ℕ → PayrollRow → PayrollRow
payroll_up_to k row = cond (not (eqb row.refusal.number 0) && leb row.refusal.record_number k) row going_on_row

-- records fed one by one answer what their file, read whole, answers
pub record PayrollFedAsWhole (records : List (List ℕ)) : Type 0 where
  -- closed with what stands behind the last line end
  pub closed : (rest : List ℕ) → no_lf rest ≡ true → progress_row (answer_of (closed_with (fed_all open_feeding records) rest)) ≡ payroll_row (check_of (joined records ++ rest))
  -- before that the answer is the refusal that reading the whole gives at one of these records, or none, whatever bytes come behind them
  pub after_each : (more : List ℕ) → progress_row (answer_of (fed_all open_feeding records)) ≡ payroll_up_to (length records) (payroll_row (check_of (joined records ++ more)))
  -- and where the close accepts them, the record that comes next is one past them
  pub one_past_the_last : (rest : List ℕ) → (progress_row (answer_of (closed_with (fed_all open_feeding records) rest))).accepted ≡ true →
      next_number (closed_with (fed_all open_feeding records) rest).state ≡ suc (length records)

-- a call: a record more, or the close with what is left
pub data PayrollCall : Type 0 where
  feed : List ℕ → PayrollCall
  close : List ℕ → PayrollCall

-- one call after the other
unfoldable pub payroll_called : Feeding → List PayrollCall → Feeding
payroll_called f [] = f
payroll_called f (feed r ∷ calls) = payroll_called (fed_of f r) calls
payroll_called f (close rest ∷ calls) = payroll_called (closed_with f rest) calls

-- "Once refused, every later call gives that same refusal"
abbrev pub PayrollRefusedForGood : Feeding → Refusal → Type 0
PayrollRefusedForGood f refusal = (calls : List PayrollCall) → progress_row (answer_of (payroll_called f calls)) ≡ refused_row refusal

-- what a state with an accepted answer gives to further calls
pub record PayrollAfterAcceptedClose (f : Feeding) : Type 0 where
  -- a further record is 13, at the record that comes next, for good
  pub record_more : (r : List ℕ) → PayrollRefusedForGood (fed_of f r) (refusal_at BytesAfterTheEnd 0 f.state)
  -- and a further close the same answer, whatever it is given
  pub close_more : (rest : List ℕ) → progress_row (answer_of (closed_with f rest)) ≡ progress_row (answer_of f)
