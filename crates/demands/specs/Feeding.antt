-- FEEDING EQUALS THE WHOLE: "The file may also be given record by record, without line ends, and then closed."
use Rattle.std.specs.Prelude.{ℕ, suc, ◌≡◌, List, [], ◌∷◌, ◌++◌, cond, not, ◌&&◌, length, leb, eqb}
use Rattle.refusal.specs.declared.Cause.TheVariants.{BytesAfterTheEnd}
use Rattle.refusal.specs.declared.Refusal.{Refusal}
use Rattle.lines.specs.Lines.{joined}
use Rattle.card_run.specs.declared.running.Running.{Running}
use Rattle.card_run.specs.Running.{open_of, next_number, closed_of}
use Rattle.card_file.specs.Feeding.{fed_of, fed_all}
use Rattle.card_run.specs.Answer.{answer_of, CardFileRow, going_on_row, refused_row, card_file_row}
use Rattle.card_file.specs.CardFile.{check_of}

-- of the row of reading the whole, "the refusal that reading the whole gives" at one of the first k records, "or none"
abbrev pub up_to : ℕ → CardFileRow → CardFileRow
up_to k row = cond (not (eqb row.refusal.number 0) && leb row.refusal.record_number k) row going_on_row

-- records fed one by one answer what their file, read whole, answers: "Equality with the whole holds for records without LF"
pub record FedAsWhole (edition : ℕ) (records : List (List ℕ)) : Type 0 where
  -- "closing gives 12 or the file's answer"
  pub closed : card_file_row (answer_of (closed_of (fed_all (open_of edition) records))) ≡ card_file_row (check_of edition (joined records))
  -- "After each record the answer is the refusal that reading the whole gives at that record, or none"
  pub after_each : (fed left : List (List ℕ)) → records ≡ fed ++ left →
      card_file_row (answer_of (fed_all (open_of edition) fed)) ≡ up_to (length fed) (card_file_row (check_of edition (joined records)))

-- a call: a record more, or the close
pub data Call : Type 0 where
  feed : List ℕ → Call
  close : Call

-- one call after the other
unfoldable pub called : Running → List Call → Running
called st [] = st
called st (feed r ∷ calls) = called (fed_of st r) calls
called st (close ∷ calls) = called (closed_of st) calls

-- "Once refused, every later call gives that same refusal"
abbrev pub RefusedForGood : Running → Refusal → Type 0
RefusedForGood st refusal = (calls : List Call) → card_file_row (answer_of (called st calls)) ≡ refused_row refusal

-- 13, at the record that comes next: "one past the last, 0"
abbrev pub after_the_end : Running → Refusal
after_the_end st = record { cause = BytesAfterTheEnd; «record» = next_number st; column = 0 }

-- "After an accepted close": what a state with an accepted answer gives to further calls
pub record AfterAcceptedClose (st : Running) : Type 0 where
  -- "a further record is 13", for good
  pub record_more : (r : List ℕ) → RefusedForGood (fed_of st r) (after_the_end st)
  -- "and a further close the same answer"
  pub close_more : card_file_row (answer_of (closed_of st)) ≡ card_file_row (answer_of st)

-- and the record that comes next after records were fed and closed is one past them
abbrev pub OnePastTheLast : ℕ → List (List ℕ) → Type 0
OnePastTheLast edition records = next_number (closed_of (fed_all (open_of edition) records)) ≡ suc (length records)
