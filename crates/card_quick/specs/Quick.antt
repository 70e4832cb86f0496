-- Of the quick way, and no rule of document 01: what is asked of a record of 199 bytes, and the numbers that it is then read as.
-- No answer rests on it: a law (`proofs/SurelyRight.quick_reads`) says that a sale that passes reads as the slow way reads it. That twins pass alike is `same_way` of the demands.
use Rattle.std.specs.Prelude.{ℕ, List, [], ◌∷◌, Bool, true, ◌&&◌, length, leb, eqb}
use Rattle.text.specs.Literal.{ascii}
use Rattle.text.specs.Weighed.{value_if_digits}
use Rattle.calendar.specs.Day.{is_day}
use Rattle.calendar.specs.Time.{is_time}
use Rattle.pan.specs.CardField.{well_formed}
use Rattle.totals.specs.declared.amounts.Amounts.{Amounts}
use Rattle.card_content.specs.declared.content.ClosedSet.TheVariants.{LaunchType, Product, Capture}
use Rattle.card_content.specs.declared.content.Content.TheVariants.{Digits, Day, Time, Card, OneOf}
use Rattle.card_content.specs.declared.field.Field.{Field}
use Rattle.card_content.specs.Content.{in_set}
use Rattle.card_content.specs.Field.{field, part_of}
use Rattle.card_sale.specs.declared.cv.Cv.{Cv}

-- no byte of a row is above its neighbour in another, as far as both go
unfoldable pub none_above : List ℕ → List ℕ → Bool
none_above [] high = true
none_above (a ∷ low) [] = true
none_above (a ∷ low) (b ∷ high) = leb a b && none_above low high

-- the least and the greatest byte at each place of a sale
unfoldable pub least : List ℕ
least = ascii "CV               00000000000000000000000000000000000C1000000000000000000000000000000000*******************0000000000000000000000000000000000000000000000000000000000           000000000000      000000"

unfoldable pub greatest : List ℕ
greatest = ascii "CV~~~~~~~~~~~~~~~99999999999999999999999999999999999V999999999999999999999999999999999999999999999999999999999999999999999999999999999999999999999999999999999999999~~~~~~~~~~~999999999999~~~~~~999999"

unfoldable pub in_picture : List ℕ → Bool
in_picture r = none_above least r && none_above r greatest

-- the value in a field, if it is digits
abbrev pub value_in : Field → List ℕ → ℕ
value_in f r = value_if_digits (part_of f r)

-- what the pictures leave open: the closed sets and the card, the dates and the time
unfoldable pub sets_right : ℕ → List ℕ → Bool
sets_right edition r =
    in_set LaunchType edition (part_of (field 44 44 (OneOf LaunchType)) r) &&
    (in_set Product edition (part_of (field 53 53 (OneOf Product)) r) &&
    (in_set Capture edition (part_of (field 54 54 (OneOf Capture)) r) &&
    well_formed (part_of (field 88 106 Card) r)))

unfoldable pub days_right : List ℕ → Bool
days_right r =
    is_day (value_in (field 30 37 Day) r) && (is_time (value_in (field 38 43 Time) r) && is_day (value_in (field 45 52 Day) r))

unfoldable pub surely_right : ℕ → List ℕ → Bool
surely_right edition r = in_picture r && (sets_right edition r && days_right r)

-- whether the quick way passes any bytes; all others go the slow way
abbrev pub passes_quick : ℕ → List ℕ → Bool
passes_quick edition r = eqb (length r) 199 && surely_right edition r

-- the numbers, if they are digits
abbrev pub amounts_in : Field → Field → Field → List ℕ → Amounts
amounts_in gross discount net r = record { gross = value_in gross r; discount = value_in discount r; net = value_in net r }

abbrev pub quick_cv : List ℕ → Cv
quick_cv r =
    record {
      launch_type = value_in (field 44 44 (OneOf LaunchType)) r;
      sale = amounts_in (field 55 65 Digits) (field 66 76 Digits) (field 77 87 Digits) r;
      instalment = value_in (field 107 108 Digits) r;
      instalments = value_in (field 109 110 Digits) r;
      instalment_nsu = value_in (field 111 122 Digits) r;
      instalment_amounts = amounts_in (field 123 133 Digits) (field 134 144 Digits) (field 145 155 Digits) r;
      nseq = value_in (field 194 199 Digits) r;
    }
