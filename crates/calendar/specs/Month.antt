-- Leap years and the lengths of months, by the Gregorian rule as it is written.
use Rattle.std.specs.Prelude.{ℕ, ◌%◌, Bool, cond, not, ◌&&◌, ◌||◌, leb, eqb}

-- a number divides a year where nothing remains
abbrev pub divides : ℕ → ℕ → Bool
divides n y = eqb (y % n) 0

-- a leap year is one that 4 divides, but not 100, unless 400
abbrev pub leap_year : ℕ → Bool
leap_year y = divides 4 y && (not (divides 100 y) || divides 400 y)

-- the months that the rule names
abbrev pub february : ℕ
february = 2

abbrev pub april : ℕ
april = 4

abbrev pub june : ℕ
june = 6

abbrev pub september : ℕ
september = 9

abbrev pub november : ℕ
november = 11

-- April, June, September and November have 30 days
abbrev pub has_thirty : ℕ → Bool
has_thirty m = eqb m april || eqb m june || eqb m september || eqb m november

-- February has 28, or 29 in a leap year
abbrev pub february_of : ℕ → ℕ
february_of y = cond (leap_year y) 29 28

-- the others have 31
abbrev pub length_of : ℕ → ℕ → ℕ
length_of y m = cond (has_thirty m) 30 (cond (eqb m february) (february_of y) 31)

-- months are numbered from 1 to 12
abbrev pub is_month : ℕ → Bool
is_month m = leb 1 m && leb m 12

-- how many days month m of year y has; none where m is no month
unfoldable pub days_in : ℕ → ℕ → ℕ
days_in y m = cond (is_month m) (length_of y m) 0
