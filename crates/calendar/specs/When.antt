-- What a part says when it is read as a day or as a time.
use Rattle.std.specs.Prelude.{ℕ, List, [], ◌∷◌, Bool, true, false, cond, length, eqb, Result, Ok, Err}
use Rattle.refusal.specs.declared.Cause.TheVariants.{ByteNotAllowed, ValueNotAllowed}
use Rattle.refusal.specs.Rules.{Rule, rule_at}
use Rattle.text.specs.Alphabet.{holds_only}
use Rattle.text.specs.declared.alphabet.Alphabet.TheVariants.{Digits}
use Rattle.text.specs.Number.{value_of}
use Rattle.calendar.specs.declared.when.Unreadable.{Unreadable}
use Rattle.calendar.specs.declared.when.Unreadable.TheVariants.{NotDigits, NoSuch}

-- what a part says when it is read: the day or the time as a number, or why there is none
abbrev pub When : Type 0
When = Result ℕ Unreadable

-- "N is digits only, as are dates, times .. (else 7)"; digits of another width are no such day or time
abbrev pub written : ℕ → List ℕ → When
written width s = cond (holds_only Digits s) (cond (eqb (length s) width) (Ok (value_of s)) (Err NoSuch)) (Err NotDigits)

-- a number that was written, where it is one of those that there are
abbrev pub real_one : Bool → ℕ → When
real_one real n = cond real (Ok n) (Err NoSuch)

-- what was written, where it passes a test
abbrev pub only_if : (ℕ → Bool) → When → When
only_if real (Ok n) = real_one (real n) n
only_if real (Err why) = Err why

-- the rules of a field that should name a day or a time: digits (7), and one that there is (8)
unfoldable pub when_rules : ℕ → When → List Rule
when_rules column (Err NotDigits) = rule_at ByteNotAllowed column false ∷ []
when_rules column (Err NoSuch) = rule_at ByteNotAllowed column true ∷ rule_at ValueNotAllowed column false ∷ []
when_rules column (Ok n) = rule_at ByteNotAllowed column true ∷ rule_at ValueNotAllowed column true ∷ []
