-- Days, as the number AAAAMMDD and as the files write them.
use Rattle.std.specs.Prelude.{ℕ, ◌+◌, ◌*◌, ◌/◌, ◌%◌, List, Bool, ◌&&◌, leb, Ok, Err}
use Rattle.calendar.specs.When.{When, written, only_if}
use Rattle.calendar.specs.Month.{days_in}

-- year, month and day of the number AAAAMMDD
abbrev pub year_of : ℕ → ℕ
year_of n = n / 10000

abbrev pub month_of : ℕ → ℕ
month_of n = n / 100 % 100

abbrev pub day_of : ℕ → ℕ
day_of n = n % 100

-- "A date is a real Gregorian day from 20000101 to 20991231"
unfoldable pub is_day : ℕ → Bool
is_day n = leb 2000 (year_of n) && leb (year_of n) 2099 && leb 1 (day_of n) && leb (day_of n) (days_in (year_of n) (month_of n))

-- the number DDMMAAAA as the number AAAAMMDD
abbrev pub turned : ℕ → ℕ
turned n = n % 10000 * 10000 + n / 10000 % 100 * 100 + n / 1000000

abbrev pub turned_round : When → When
turned_round (Ok n) = Ok (turned n)
turned_round (Err why) = Err why

-- a part as AAAAMMDD (card files)
abbrev pub year_first : List ℕ → When
year_first s = only_if is_day (written 8 s)

-- "Dates are DDMMAAAA" (payroll files)
abbrev pub day_first : List ℕ → When
day_first s = only_if is_day (turned_round (written 8 s))
