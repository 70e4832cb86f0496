-- A text that is kept on one line.
use Rattle.std.specs.Prelude.{ℕ, List, map, Bool, cond, ◌||◌, eqb, ltb}

-- a control byte of ASCII, LF and CR among them
abbrev pub is_control : ℕ → Bool
is_control b = ltb b 32 || eqb b 127

-- a byte with a mark in its place where it is one
abbrev pub shown_byte : ℕ → ℕ → ℕ
shown_byte mark b = cond (is_control b) mark b

-- the bytes of a text, each so
abbrev pub shown_as : ℕ → List ℕ → List ℕ
shown_as mark = map (shown_byte mark)
