-- The number that a part's digits write.
use Rattle.std.specs.Prelude.{ℕ, ◌+◌, ◌-◌, ◌*◌, List, [], ◌∷◌, cond, length, leb, Result, Ok, Err}
use Rattle.text.specs.Alphabet.{holds_only}
use Rattle.text.specs.declared.alphabet.Alphabet.TheVariants.{Digits}
use Rattle.text.specs.declared.number.NoNumber.{NoNumber}
use Rattle.text.specs.declared.number.NoNumber.TheVariants.{NotDigits, TooLong}

-- what a part says when it is read as a number
abbrev pub Number : Type 0
Number = Result ℕ NoNumber

-- the value that digits write behind those that wrote n
unfoldable pub value_from : ℕ → List ℕ → ℕ
value_from n [] = n
value_from n (b ∷ s) = value_from (n * 10 + (b - 48)) s

-- the value of a row of digits; of none it is 0
abbrev pub value_of : List ℕ → ℕ
value_of = value_from 0

-- the number that a part writes, exact up to 18 digits
abbrev pub number_of : List ℕ → Number
number_of s = cond (holds_only Digits s) (cond (leb (length s) 18) (Ok (value_of s)) (Err TooLong)) (Err NotDigits)

-- the number that was read; 0 where there is none
abbrev pub plain_number : Number → ℕ
plain_number (Ok n) = n
plain_number (Err none) = 0
