-- The row of an adjustment: "record, store, original date (empty where zeros), adjustment date, CREDIT or DEBIT, reason code, description, gross, discount, net"; no card.
use Rattle.std.specs.Prelude.{ℕ, List, [], ◌∷◌, Bool, cond}
use Rattle.text.specs.Literal.{ascii, same_bytes}
use Rattle.wording.specs.Number.{decimal_of}
use Rattle.card_content.specs.declared.content.Content.TheVariants.{Digits, Text, Day, DayOrZeros}
use Rattle.card_content.specs.Content.{no_day}
use Rattle.card_content.specs.Field.{field, part_of}
use Rattle.card_adjustment.specs.Aj.{aj_amounts, aj_of, is_credit}
use Rattle.adjustment_rows.specs.Fields.{quoted, amount_text, separated}

-- "empty where zeros"
unfoldable pub day_text : List ℕ → List ℕ
day_text p = cond (same_bytes p no_day) [] p

unfoldable pub type_text : Bool → List ℕ
type_text credit = cond credit (ascii "CREDIT") (ascii "DEBIT")

-- the first line, which names them
abbrev pub header : List ℕ
header = ascii "record,store,original_date,adjustment_date,type,reason,description,gross,discount,net\n"

-- the row of a record of kind AJ, which is the file's record of this number
unfoldable pub row_of : ℕ → List ℕ → List ℕ
row_of number r =
    separated
    (decimal_of number ∷
    quoted (part_of (field 3 17 Text) r) ∷
    day_text (part_of (field 30 37 DayOrZeros) r) ∷
    part_of (field 52 59 Day) r ∷
    type_text (is_credit (aj_of r)) ∷
    part_of (field 77 79 Digits) r ∷
    quoted (part_of (field 80 109 Text) r) ∷
    amount_text (aj_amounts r).gross ∷
    amount_text (aj_amounts r).discount ∷
    amount_text (aj_amounts r).net ∷
    [])
