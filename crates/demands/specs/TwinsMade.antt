-- TWINS MADE: a record, and a file, with digits put for hidden digits of it is a twin of it, whatever the digits are, and there is no other twin.
use Rattle.std.specs.Prelude.{ℕ, ◌<◌, ◌≡◌, ◌↔◌, List, Bool, true, ◌&&◌, length, get_or}
use Rattle.text.specs.Alphabet.{digit}
use Rattle.pan.specs.AgreeOutside.{AgreeOutside}
use Rattle.demands.specs.HiddenDigits.{hidden_in_record, hidden_in, TwinRecords, TwinFiles}

-- hidden digits of s, by a test of what is hidden in it, are changed into digits, and nothing else
pub record DigitsChanged (hidden : ℕ → Bool) (s t : List ℕ) : Type 0 where
  pub elsewhere : AgreeOutside (λ i. hidden i && digit (get_or s i 0)) s t
  pub into_digits : (i : ℕ) → i < length s → hidden i && digit (get_or s i 0) ≡ true → digit (get_or t i 0) ≡ true

-- a twin has a hidden digit in both; here only what is hidden in the one is looked at, and the other is a twin exactly then
pub record TwinsMade : Type 0 where
  pub records : (r s : List ℕ) → DigitsChanged (hidden_in_record r) r s ↔ TwinRecords r s
  pub files : (s t : List ℕ) → DigitsChanged (hidden_in s) s t ↔ TwinFiles s t
