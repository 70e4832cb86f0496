-- Document 01's examples marked (p), in its order, as one list and one statement.
use Rattle.std.specs.Prelude.{ℕ, List, [], ◌∷◌, Bool, true, false, not, ◌&&◌, eqb, Err, Ok}
use Prim.Native.String.{String}
use Rattle.refusal.specs.Row.{RefusalRow}
use Rattle.text.specs.Literal.{ascii, same_bytes}
use Rattle.calendar.specs.Day.{year_first}
use Rattle.pan.specs.Masked.{masked}
use Rattle.card_run.specs.declared.running.Running.{Running}
use Rattle.card_run.specs.Running.{open_of}
use Rattle.card_run.specs.Answer.{answer_of, card_file_row}
use Rattle.card_file.specs.Feeding.{fed_of, fed_all}
use Rattle.demands.specs.ExampleFile.{a0, l0, cash_sale}
use Rattle.calendar.specs.declared.when.Unreadable.TheVariants.{NoSuch, NotDigits}
use Rattle.calendar.specs.When.{When}

pub data Example : Type 0 where
  -- a card field, and what masking gives
  masks : String → String → Example
  -- a part that is a date, and one that is none
  is_date : String → Example
  is_no_date : String → Example
  -- gross, discount and net of a cash sale, "eleven digits, in centavos", which agree, or are refused by a number at a column
  agrees : String → String → String → Example
  is_refused : String → String → String → ℕ → ℕ → Example

-- whether a part names a day
abbrev names_day : When → Bool
names_day (Err NotDigits) = false
names_day (Err NoSuch) = false
names_day (Ok n) = true

-- the place of a sale: behind A0 and L0, under edition 2
abbrev in_batch : Running
in_batch = fed_all (open_of 2) (a0 ∷ l0 ∷ [])

-- the refusal after a cash sale, taken at its place
abbrev after_sale : String → String → String → RefusalRow
after_sale gross discount net = (card_file_row (answer_of (fed_of in_batch (cash_sale gross discount net "0001234567890123456")))).refusal

-- whether a row of the paper has a number of the refusal list, 0 for none, and a column
abbrev is_at : ℕ → ℕ → RefusalRow → Bool
is_at number column row = eqb row.number number && eqb row.column column

-- whether an example is as written
unfoldable pub as_written : Example → Bool
as_written (masks field gives) = same_bytes (masked (ascii field)) (ascii gives)
as_written (is_date part) = names_day (year_first (ascii part))
as_written (is_no_date part) = not (names_day (year_first (ascii part)))
as_written (agrees gross discount net) = is_at 0 0 (after_sale gross discount net)
as_written (is_refused gross discount net number column) = is_at number column (after_sale gross discount net)

abbrev pub examples : List Example
examples =
    masks "0001234567890123456" "000123456******3456" ∷
    masks "000123456****123456" "000123456******3456" ∷
    masks "1234567890123456789" "123456*********6789" ∷
    masks "0000123456789012345" "00001234*******2345" ∷
    masks "0000001234567890123" "0000001234*****0123" ∷
    masks "0000000123456789012" "0000000123456789012" ∷
    masks "0000000000000000000" "0000000000000000000" ∷
    is_date "20240229" ∷
    is_no_date "20230229" ∷
    is_no_date "19991231" ∷
    is_date "20991231" ∷
    agrees "00000010000" "00000000250" "00000009750" ∷
    is_refused "00000010000" "00000000250" "00000009751" 10 77 ∷ []

-- every example of a list is as written
unfoldable pub all_as_written : List Example → Bool
all_as_written [] = true
all_as_written (e ∷ es) = as_written e && all_as_written es
