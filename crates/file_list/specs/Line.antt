-- The line of a file among many: "the verdict's words on one line and then the file's name (control bytes in it shown as `?`)".
use Rattle.std.specs.Prelude.{ℕ, List, [], ◌∷◌}
use Rattle.text.specs.Literal.{ascii}
use Rattle.wording.specs.Line.{joined}
use Rattle.wording.specs.Shown.{shown_as}

-- a verdict's lines, a blank (32) for each LF; the name, `?` (63) for each control byte; and an LF
unfoldable pub file_line : List ℕ → List ℕ → List ℕ
file_line words name = joined (shown_as 32 words ∷ shown_as 63 name ∷ ascii "\n" ∷ [])

-- "an unreadable file as `UNREADABLE`"
abbrev pub unreadable : List ℕ
unreadable = ascii "UNREADABLE\n"
