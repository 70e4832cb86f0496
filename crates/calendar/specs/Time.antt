-- Times, as the number HHMMSS and as the files write them.
use Rattle.std.specs.Prelude.{ℕ, ◌/◌, ◌%◌, List, Bool, ◌&&◌, ltb}
use Rattle.calendar.specs.When.{When, written, only_if}

-- "a time is 000000 to 235959 with minutes and seconds below 60"
unfoldable pub is_time : ℕ → Bool
is_time n = ltb n 240000 && ltb (n / 100 % 100) 60 && ltb (n % 100) 60

-- a part as HHMMSS
abbrev pub time_of : List ℕ → When
time_of s = only_if is_time (written 6 s)
