-- What is promised of a file that was read into a buffer: the count lies within it.
use Rattle.std.specs.Prelude.{ℕ, ◌≤◌, ◌<◌, Option, None, Some, Result, Ok, Err}

-- what reading a whole file answers: so many bytes, or that it may go on behind the buffer, or an error
abbrev pub Loaded : Type 0
Loaded = Result (Option ℕ) ℕ

-- a whole file lies within a buffer of this size
abbrev pub LoadedWithin : ℕ → Loaded → Type 0
LoadedWithin size (Ok (Some n)) = n ≤ size
LoadedWithin size (Ok None) = Unit {0}
LoadedWithin size (Err error) = Unit {0}

-- what one read means: so many bytes, or the end, or an error
abbrev pub Got : Type 0
Got = Result (Option ℕ) ℕ

-- one read moves at least a byte, and no more than there is room for
abbrev pub GotWithin : ℕ → Got → Type 0
GotWithin size (Ok (Some n)) = (0 < n) × (n ≤ size)
GotWithin size (Ok None) = Unit {0}
GotWithin size (Err error) = Unit {0}
