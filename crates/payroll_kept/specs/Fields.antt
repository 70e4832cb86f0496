-- A field keeps its rule: on its own bytes, without reading, faults or refusals.
use Rattle.std.specs.Prelude.{ℕ, ◌≡◌, List, true}
use Rattle.text.specs.declared.alphabet.Alphabet.TheVariants.{Digits}
use Rattle.text.specs.Alphabet.{holds_only}
use Rattle.text.specs.Number.{value_of}
use Rattle.text.specs.Part.{positions}
use Rattle.calendar.specs.Day.{is_day, turned}

-- "The fields below are digits"
abbrev pub DigitsAt : ℕ → ℕ → List ℕ → Type 0
DigitsAt first last r = holds_only Digits (positions first last r) ≡ true

-- the number that stands at positions, digits being there
abbrev pub number_at : ℕ → ℕ → List ℕ → ℕ
number_at first last r = value_of (positions first last r)

-- digits stand at positions, and they write a number
pub record Holds (first last n : ℕ) (r : List ℕ) : Type 0 where
  pub digits : DigitsAt first last r
  pub number : number_at first last r ≡ n

-- "Dates are DDMMAAAA, in the card file's range"
pub record DayAt (first last : ℕ) (r : List ℕ) : Type 0 where
  pub digits : DigitsAt first last r
  pub real : is_day (turned (number_at first last r)) ≡ true
