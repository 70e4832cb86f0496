-- A field keeps its rule: on its own bytes, without judging, faults or refusals.
use Rattle.std.specs.Prelude.{ℕ, ◌≡◌, ◌⊎◌, List, [], ◌∷◌, true}
use Rattle.text.specs.declared.alphabet.Alphabet.TheVariants.{Digits as digits, CardText as card_text}
use Rattle.text.specs.Alphabet.{holds_only}
use Rattle.text.specs.Number.{value_of}
use Rattle.text.specs.Part.{positions}
use Rattle.calendar.specs.Day.{is_day}
use Rattle.calendar.specs.Time.{is_time}
use Rattle.pan.specs.CardField.{well_formed}
use Rattle.card_content.specs.declared.content.Content.{Content}
use Rattle.card_content.specs.declared.content.Content.TheVariants.{Digits, Text, Day, DayOrZeros, Time, Card, CardOrBlanks, OneOf}
use Rattle.card_content.specs.declared.field.Field.{Field}
use Rattle.card_content.specs.Content.{in_set, no_day, no_card}

-- what a field's bytes keep, by its content
abbrev pub ContentKept : Content → ℕ → List ℕ → Type 0
ContentKept Digits edition p = holds_only digits p ≡ true
ContentKept Text edition p = holds_only card_text p ≡ true
ContentKept Day edition p = (holds_only digits p ≡ true) × (is_day (value_of p) ≡ true)
ContentKept DayOrZeros edition p = (p ≡ no_day) ⊎ ((holds_only digits p ≡ true) × (is_day (value_of p) ≡ true))
ContentKept Time edition p = (holds_only digits p ≡ true) × (is_time (value_of p) ≡ true)
ContentKept Card edition p = well_formed p ≡ true
ContentKept CardOrBlanks edition p = (p ≡ no_card) ⊎ (well_formed p ≡ true)
ContentKept (OneOf set) edition p = in_set set edition p ≡ true

-- every field of a table keeps its rule in a record
abbrev pub FieldsKept : ℕ → List ℕ → List Field → Type 0
FieldsKept edition r [] = Unit {0}
FieldsKept edition r (f ∷ fs) = ContentKept f.2 edition (positions f.0 f.1 r) × FieldsKept edition r fs

-- the number that stands at positions, digits being there
abbrev pub number_at : ℕ → ℕ → List ℕ → ℕ
number_at first last r = value_of (positions first last r)
