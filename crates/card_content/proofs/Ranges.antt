-- How large a number is: a field of n positions holds one below 10^n, whatever the record's bytes are.
use Prim.Native.Nat.{ℕ, ◌-◌, ◌^◌, ◌≤◌, ◌<◌}
use mathlib.Core.Path.{◌≡◌, refl}
use mathlib.Core.List.{List}
use mathlib.Core.Bool.{Bool, true, false, cond}
use native.Mathlib.Omega.{arith}
use native.Mathlib.Nat.{one-le-pow, pow-le-pow_right}
use lib.ListN.{length, take, length-take, length-drop}
use lib.Dec.{lit<, leb}
use Rattle.text.specs.declared.alphabet.Alphabet.TheVariants.{Digits as digits}
use Rattle.std.specs.Prelude.{Ok, Err}
use Rattle.text.specs.declared.number.NoNumber.TheVariants.{NotDigits, TooLong}
use Rattle.text.specs.Alphabet.{holds_only}
use Rattle.text.specs.Number.{value_of, number_of, plain_number}
use Rattle.text.proofs.Numbers.{value_below}
use Rattle.card_content.specs.declared.field.Field.{Field}
use Rattle.card_content.specs.Field.{part_of, number_in}

-- what at most n bytes write, where they write a number at all
written_below : (n : ℕ) (s : List ℕ) → length s ≤ n → plain_number (number_of s) < 10 ^ n
written_below n s h = by (holds_only digits s) (leb (length s) 18) refl
  where
    by : (p q : Bool) → holds_only digits s ≡ p → plain_number (cond p (cond q (Ok (value_of s)) (Err TooLong)) (Err NotDigits)) < 10 ^ n
    by true true e = omega (arith, value_below s e, pow-le-pow_right {n = 10} (lit< tt) {i = length s} {j = n} h)
    by true false e = one-le-pow n 10 (lit< tt)
    by false q e = one-le-pow n 10 (lit< tt)

-- the number in a field of a record
pub number_below : (f : Field) (r : List ℕ) → number_in f r < 10 ^ (f.1 - (f.0 - 1))
number_below f r =
    written_below (f.1 - (f.0 - 1)) (part_of f r)
    (omega (arith, length-drop (f.0 - 1) (take f.1 r), length-take f.1 r))
