-- The fields of a row of CSV: texts, and amounts with two decimals.
use Rattle.std.specs.Prelude.{ℕ, ◌+◌, ◌/◌, ◌%◌, List, [], ◌∷◌, ◌++◌, Bool, cond, eqb}
use Rattle.text.specs.Literal.{ascii, one_byte_of}
use Rattle.text.specs.Part.{positions}
use Rattle.wording.specs.Number.{decimal_of}
use Rattle.wording.specs.Line.{joined}

-- "quotes doubled": byte 34 is the quote
unfoldable pub doubled : List ℕ → List ℕ
doubled [] = []
doubled (b ∷ s) = cond (eqb b 34) (34 ∷ 34 ∷ doubled s) (b ∷ doubled s)

-- a text that a spreadsheet would compute begins with one of the first four; one that begins with an apostrophe is marked too, so that no two texts look alike
abbrev pub is_marked : List ℕ → Bool
is_marked s = one_byte_of (ascii "=+-@'") (positions 1 1 s)

-- the mark is an apostrophe in front
abbrev pub mark_of : List ℕ → List ℕ
mark_of s = cond (is_marked s) (ascii "'") []

-- "texts quoted, all their bytes"
unfoldable pub quoted : List ℕ → List ℕ
quoted s = joined ((34 ∷ []) ∷ mark_of s ∷ doubled s ∷ (34 ∷ []) ∷ [])

-- an amount, which is in centavos, "with two decimals"
unfoldable pub amount_text : ℕ → List ℕ
amount_text n = joined (decimal_of (n / 100) ∷ ascii "." ∷ ((48 + n / 10 % 10) ∷ (48 + n % 10) ∷ []) ∷ [])

-- fields with a comma between two, and an LF at the end
unfoldable pub separated : List (List ℕ) → List ℕ
separated [] = ascii "\n"
separated (f ∷ []) = f ++ ascii "\n"
separated (f ∷ g ∷ fs) = f ++ (ascii "," ++ separated (g ∷ fs))

-- fields with a comma behind each
unfoldable pub with_commas : List (List ℕ) → List ℕ
with_commas [] = []
with_commas (f ∷ fs) = f ++ (ascii "," ++ with_commas fs)
