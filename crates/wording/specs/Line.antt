-- The lines of which a verdict is made: "Lines end in LF, numbers have no leading zeros".
use Rattle.std.specs.Prelude.{ℕ, List, [], ◌∷◌, ◌++◌}
use Rattle.text.specs.Literal.{ascii}
use Rattle.refusal.specs.declared.Refusal.{Refusal}
use Rattle.refusal.specs.RefusalList.{number_of}
use Rattle.wording.specs.Number.{decimal_of}

-- a word, a blank and a number
unfoldable pub word_of : List ℕ → ℕ → List ℕ
word_of name n = name ++ (ascii " " ++ decimal_of n)

-- a line of these
unfoldable pub line_of : List ℕ → ℕ → List ℕ
line_of name n = word_of name n ++ ascii "\n"

-- "a refusal prints `REFUSED n RECORD r COLUMN c`"
unfoldable pub refused_line : Refusal → List ℕ
refused_line r = word_of (ascii "REFUSED") (number_of r.cause) ++ (word_of (ascii " RECORD") r.«record» ++ line_of (ascii " COLUMN") r.column)

-- texts one behind the other
abbrev pub joined : List (List ℕ) → List ℕ
joined [] = []
joined (text ∷ texts) = text ++ joined texts
