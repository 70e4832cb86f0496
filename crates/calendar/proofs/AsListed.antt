-- The lengths by the rule are the twelve that stood in a list before, for every year and every month number.
-- Of a year only whether it is leap matters; the months below 13 are then computed one by one, and there is none above.
use Prim.Native.Nat.{ℕ, zero, suc, ◌-◌, ◌%◌, ◌<◌}
use mathlib.Core.Path.{◌≡◌, refl, ◌∙◌, ap}
use mathlib.Core.Logic.{inr}
use mathlib.Core.List.{List, [], ◌∷◌}
use mathlib.Core.Bool.{Bool, true, false, cond, not, ◌&&◌, ◌||◌, false≢true}
use native.Mathlib.Omega.{arith}
use lib.ListN.{get_or}
use lib.Dec.{leb, ltb, eqb}
use borrow.Author.Tests.{le-leb, lt-leb, eq-eqb, eqb-true, ltb-true, ltb-false}
use Rattle.text.proofs.Alphabets.{both_left, both_right}
use Rattle.calendar.specs.Month.{divides, leap_year, february, has_thirty, is_month, days_in}
use Rattle.calendar.proofs.Months.{no_month}

-- a leap year, as it was said before: 400 divides it, or 4 does and 100 does not
abbrev pub listed_leap : ℕ → Bool
listed_leap y = eqb (y % 400) 0 || (eqb (y % 4) 0 && not (eqb (y % 100) 0))

-- January to December, in a year that is not leap
abbrev pub month_lengths : List ℕ
month_lengths = 31 ∷ 28 ∷ 31 ∷ 30 ∷ 31 ∷ 30 ∷ 31 ∷ 31 ∷ 30 ∷ 31 ∷ 30 ∷ 31 ∷ []

-- the length that was picked from the list, by whether the year is leap
abbrev pub listed_length : Bool → ℕ → ℕ
listed_length leap m = cond (leb 1 m && leb m 12) (cond (eqb m 2 && leap) 29 (get_or month_lengths (m - 1) 0)) 0

-- the leap years are the same
pub same_leap_years : (y : ℕ) → leap_year y ≡ listed_leap y
same_leap_years y =
    said (divides 4 y) (divides 100 y) (divides 400 y) (λ e. let by-400 = eqb-true (y % 400) 0 e in eq-eqb (y % 4) 0 (omega arith))
  where
    said : (p q r : Bool) → (r ≡ true → p ≡ true) → p && (not q || r) ≡ r || (p && not q)
    said true true true h = refl
    said true true false h = refl
    said true false true h = refl
    said true false false h = refl
    said false q true h = absurd (false≢true (h refl))
    said false q false h = refl

-- a test that every number below n passes
abbrev all_below : ℕ → (ℕ → Bool) → Bool
all_below zero test = true
all_below (suc n) test = test 0 && all_below n (λ i. test (suc i))

each_below : (n : ℕ) (test : ℕ → Bool) → all_below n test ≡ true → (i : ℕ) → i < n → test i ≡ true
each_below zero test e i h = absurd (omega arith)
each_below (suc n) test e zero h = both_left (test 0) (all_below n (λ i. test (suc i))) e
each_below (suc n) test e (suc i) h =
    each_below n (λ i. test (suc i)) (both_right (test 0) (all_below n (λ i. test (suc i))) e) i (omega arith)

-- the lengths are the same
pub same_lengths : (y m : ℕ) → days_in y m ≡ listed_length (listed_leap y) m
unfolding days_in
same_lengths y m = by (ltb m 13) refl
  where
    ruled_length : Bool → ℕ → ℕ
    ruled_length leap m = cond (is_month m) (cond (has_thirty m) 30 (cond (eqb m february) (cond leap 29 28) 31)) 0

    same : Bool → ℕ → Bool
    same leap m = eqb (ruled_length leap m) (listed_length leap m)

    computed : (leap : Bool) → all_below 13 (same leap) ≡ true
    computed true = refl
    computed false = refl

    by : (t : Bool) → ltb m 13 ≡ t → days_in y m ≡ listed_length (listed_leap y) m
    by true e =
        eqb-true _ _ (each_below 13 (same (leap_year y)) (computed (leap_year y)) m (ltb-true m 13 e)) ∙
        ap (λ leap. listed_length leap m) (same_leap_years y)
    by false e = no_month y m (inr (ltb-false m 13 e)) ∙ rw (le-leb 1 m (omega (arith, ltb-false m 13 e)), lt-leb m 12 (ltb-false m 13 e))
