-- What a number AAAAMMDD is, where it is a day.
use Prim.Native.Nat.{ℕ, ◌≤◌}
use mathlib.Core.Path.{◌≡◌}
use mathlib.Core.Bool.{true, ◌&&◌}
use native.Mathlib.Omega.{arith}
use lib.Dec.{leb}
use borrow.Author.Tests.{leb-true}
use Rattle.text.proofs.Alphabets.{both_left, both_right}
use Rattle.calendar.specs.Month.{days_in}
use Rattle.calendar.specs.Day.{year_of, month_of, day_of, is_day}
use Rattle.calendar.proofs.Months.{some_month, at_most}

-- its year is of this century, and its month has such a day
pub real_day : (n : ℕ) → is_day n ≡ true →
    (2000 ≤ year_of n) × (year_of n ≤ 2099) × (1 ≤ day_of n) × (day_of n ≤ days_in (year_of n) (month_of n))
unfolding is_day
real_day n e =
    let from = leb 2000 (year_of n) in
    let to = leb (year_of n) 2099 in
    let first = leb 1 (day_of n) in
    let last = leb (day_of n) (days_in (year_of n) (month_of n)) in
    let three = both_left (from && to && first) last e in
    let two = both_left (from && to) first three in (
      leb-true _ _ (both_left from to two),
      leb-true _ _ (both_right from to two),
      leb-true _ _ (both_right (from && to) first three),
      leb-true _ _ (both_right (from && to && first) last e),
    )

-- "from 20000101 to 20991231"
pub day_range : (n : ℕ) → is_day n ≡ true → (20000101 ≤ n) × (n ≤ 20991231)
day_range n e =
    let r = real_day n e in
    let m = some_month (year_of n) (month_of n) (omega arith) in
    (omega arith, omega (arith, at_most (year_of n) (month_of n)))
