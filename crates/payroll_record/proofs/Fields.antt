-- What the number of a field says: which digits write it, and how large it can be.
use Prim.Native.Nat.{ℕ, ◌-◌, ◌^◌, ◌≤◌, ◌<◌}
use mathlib.Core.Path.{◌≡◌, refl, ap, subst}
use mathlib.Core.List.{List}
use mathlib.Core.Bool.{Bool, true, false, cond}
use native.Mathlib.Omega.{arith}
use native.Mathlib.Nat.{pow-le-pow_right}
use lib.ListN.{length, length-take, length-drop}
use lib.Dec.{leb, lit<}
use borrow.Author.Tests.{le-leb}
use Rattle.std.specs.Prelude.{Ok, Err}
use Rattle.text.specs.declared.alphabet.Alphabet.TheVariants.{Digits}
use Rattle.text.specs.declared.number.NoNumber.TheVariants.{NotDigits, TooLong}
use Rattle.text.specs.Alphabet.{holds_only}
use Rattle.text.specs.Number.{Number, value_of, plain_number}
use Rattle.text.proofs.Numbers.{value_below}
use Rattle.payroll_record.specs.declared.field.Field.{Field}
use Rattle.payroll_record.specs.Field.{part_of, number_in}

-- more digits write larger numbers
more_digits : (i j : ℕ) → i ≤ j → 10 ^ i ≤ 10 ^ j
more_digits i j h = pow-le-pow_right {n = 10} (lit< tt) {i = i} {j = j} h

-- the width of a field
abbrev pub width_of : Field → ℕ
width_of f = f.1 - (f.0 - 1)

-- its part is no wider, whatever the record
pub no_wider : (f : Field) (r : List ℕ) → length (part_of f r) ≤ width_of f
no_wider f r = simp (length-drop, length-take) (omega arith)

-- a part is digits, and they write n
pub record Writes (s : List ℕ) (n : ℕ) : Type 0 where
  pub digits : holds_only Digits s ≡ true
  pub value : value_of s ≡ n

-- the number that is read by two tests: the part is digits, and not too many
was_of : (p q : Bool) (v n : ℕ) → cond p (cond q (Ok v) (Err TooLong)) (Err NotDigits) ≡ Ok n → (p ≡ true) × (v ≡ n)
was_of true true v n e = (refl, cc)
was_of true false v n e = (refl, cc)
was_of false q v n e = (cc, cc)

-- a number that is read is written there
pub written : (f : Field) (r : List ℕ) (n : ℕ) → number_in f r ≡ Ok n → Writes (part_of f r) n
written f r n e =
    let s = part_of f r in
    let is = was_of (holds_only Digits s) (leb (length s) 18) (value_of s) n e in
    record { digits = is.0; value = is.1 }

-- and one that is written there is read, where the field is not too wide
pub read : (f : Field) (r : List ℕ) (n : ℕ) → width_of f ≤ 18 → Writes (part_of f r) n → number_in f r ≡ Ok n
read f r n h w = rw (w.digits, le-leb (length (part_of f r)) 18 (omega (arith, no_wider f r))) (ap Ok w.value)

-- a number of a field of width w is below 10^w
pub number_below : (f : Field) (r : List ℕ) (n : ℕ) → number_in f r ≡ Ok n → n < 10 ^ width_of f
number_below f r n e =
    let s = part_of f r in
    let w = written f r n e in
    let below : n < 10 ^ length s = subst (λ (m : ℕ). m < 10 ^ length s) w.value (value_below s w.digits) in
    omega (arith, more_digits (length s) (width_of f) (no_wider f r))

-- also where 0 stands for what is no number
pub plain_below : (f : Field) (r : List ℕ) → plain_number (number_in f r) < 10 ^ width_of f
plain_below f r = of (width_of f) (number_in f r) (number_below f r)
  where
    of : (w : ℕ) (x : Number) → ((n : ℕ) → x ≡ Ok n → n < 10 ^ w) → plain_number x < 10 ^ w
    of w (Ok n) h = h n refl
    of w (Err none) h = omega (arith, more_digits 0 w (omega arith))
