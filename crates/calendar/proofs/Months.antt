-- What the calendar says of the months, whatever list or rule `days_in` is made of.
use Prim.Native.Nat.{ℕ, ◌≤◌, ◌<◌}
use mathlib.Core.Path.{◌≡◌, refl}
use mathlib.Core.Logic.{◌⊎◌, inl, inr, ⊎_elim}
use mathlib.Core.Bool.{Bool, true, false, cond}
use native.Mathlib.Omega.{arith}
use lib.Dec.{eqb}
use borrow.Author.Tests.{le-leb, lt-leb}
use Rattle.calendar.specs.Month.{leap_year, is_month, has_thirty, days_in}

-- April, June, September and November
pub thirty : (y : ℕ) → (days_in y 4 ≡ 30) × (days_in y 6 ≡ 30) × (days_in y 9 ≡ 30) × (days_in y 11 ≡ 30)
unfolding days_in
thirty y = (refl, refl, refl, refl)

-- January, March, May, July, August, October and December
pub thirty_one : (y : ℕ) →
    (days_in y 1 ≡ 31) × (days_in y 3 ≡ 31) × (days_in y 5 ≡ 31) × (days_in y 7 ≡ 31) × (days_in y 8 ≡ 31) × (days_in y 10 ≡ 31) × (days_in y 12 ≡ 31)
unfolding days_in
thirty_one y = (refl, refl, refl, refl, refl, refl, refl)

-- February
pub february : (y : ℕ) → days_in y 2 ≡ cond (leap_year y) 29 28
unfolding days_in
february y = refl

-- there is no other month
pub no_month : (y m : ℕ) → (m < 1) ⊎ (12 < m) → days_in y m ≡ 0
unfolding days_in
no_month y m h = ⊎_elim (λ (l : m < 1). rw (lt-leb 1 m l)) (λ (l : 12 < m). rw (le-leb 1 m (omega arith), lt-leb m 12 l)) h

-- so a month that has a day is one of twelve
pub some_month : (y m : ℕ) → 1 ≤ days_in y m → (1 ≤ m) × (m ≤ 12)
some_month y m h =
    let low : m < 1 → ⊥ = λ l. omega (arith, no_month y m (inl l)) in
    let high : 12 < m → ⊥ = λ l. omega (arith, no_month y m (inr l)) in
    omega arith

-- no month has more than 31 days
pub at_most : (y m : ℕ) → days_in y m ≤ 31
unfolding days_in
at_most y m = picked (is_month m) (has_thirty m) (eqb m 2) (leap_year y)
  where
    picked : (p q r s : Bool) → cond p (cond q 30 (cond r (cond s 29 28) 31)) 0 ≤ 31
    picked false q r s = omega arith
    picked true true r s = omega arith
    picked true false true true = omega arith
    picked true false true false = omega arith
    picked true false false s = omega arith
