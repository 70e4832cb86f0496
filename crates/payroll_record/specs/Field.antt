-- Fields, and the rules of what they hold: "The fields below are digits (7) and are judged by position, by the number given, trailer
-- counts and sums by 11, all else by 8".
use Rattle.std.specs.Prelude.{ℕ, List, [], ◌∷◌, true, false, eqb, Ok, Err}
use Rattle.refusal.specs.declared.Cause.{Cause}
use Rattle.refusal.specs.declared.Cause.TheVariants.{ByteNotAllowed}
use Rattle.refusal.specs.Rules.{Rule, rule_at}
use Rattle.text.specs.declared.alphabet.Alphabet.TheVariants.{Digits}
use Rattle.text.specs.Alphabet.{holds_only}
use Rattle.text.specs.declared.number.NoNumber.TheVariants.{NotDigits, TooLong}
use Rattle.text.specs.Number.{Number, number_of}
use Rattle.text.specs.Part.{positions}
use Rattle.calendar.specs.When.{when_rules}
use Rattle.calendar.specs.Day.{day_first}
use Rattle.payroll_record.specs.declared.field.Field.{Field}

-- the field from a first to a last position
abbrev pub field : ℕ → ℕ → Field
field first last = record { 0 = first; 1 = last }

-- "Bank 1-3 .. batch 4-7": what every record has in front
abbrev pub bank : Field
bank = field 1 3

abbrev pub batch : Field
batch = field 4 7

-- the part of a record that is a field
abbrev pub part_of : Field → List ℕ → List ℕ
part_of f r = positions f.0 f.1 r

-- what a field says as a number
abbrev pub number_in : Field → List ℕ → Number
number_in f r = number_of (part_of f r)

-- a field that is digits (7)
abbrev pub digit_rules : Field → List ℕ → List Rule
digit_rules f r = rule_at ByteNotAllowed f.0 (holds_only Digits (part_of f r)) ∷ []

-- a number that is digits (7), and then the one that it should be
unfoldable pub number_rules : Cause → ℕ → Number → ℕ → List Rule
number_rules cause column (Err NotDigits) right = rule_at ByteNotAllowed column false ∷ []
number_rules cause column (Err TooLong) right = rule_at ByteNotAllowed column true ∷ rule_at cause column false ∷ []
number_rules cause column (Ok n) right = rule_at ByteNotAllowed column true ∷ rule_at cause column (eqb n right) ∷ []

-- "Dates are DDMMAAAA, in the card file's range"
abbrev pub day_rules : Field → List ℕ → List Rule
day_rules f r = when_rules f.0 (day_first (part_of f r))
