-- The adjustments of a card file as CSV: a header line, and a row for each record of kind AJ.
use Rattle.std.specs.Prelude.{ℕ, ◌≡◌, List, [], ◌∷◌, ◌++◌, Bool, cond, ◌&&◌, length, eqb}
use Rattle.text.specs.Literal.{ascii, same_bytes}
use Rattle.text.specs.Part.{positions}
use Rattle.totals.specs.Sum.{capped}
use Rattle.lines.specs.Lines.{cut, finished_in, ends_in_cr, without_last}
use Rattle.wording.specs.Put.{Puts}
use Rattle.adjustment_rows.specs.declared.rows.Rows.{Rows}
use Rattle.adjustment_rows.specs.Row.{header, row_of}

-- a record of kind AJ, of its width
abbrev pub is_adjustment : List ℕ → Bool
is_adjustment r = same_bytes (positions 1 2 r) (ascii "AJ") && eqb (length r) 193

-- a piece before an LF is such a record where a CR ends it
abbrev pub has_row : List ℕ → Bool
has_row p = ends_in_cr p && is_adjustment (without_last p)

-- its row; of any other piece there is none
unfoldable pub row_in : ℕ → List ℕ → List ℕ
row_in number p = cond (has_row p) (row_of number (without_last p)) []

-- the rows of pieces, the first of which is the file's record of this number; a number stays at the top of 64 bits
unfoldable pub rows_of : ℕ → List (List ℕ) → List ℕ
rows_of number [] = []
rows_of number (p ∷ ps) = row_in number p ++ rows_of (capped number 1) ps

-- the CSV of a file
abbrev pub csv_of : List ℕ → List ℕ
csv_of file = header ++ rows_of 1 (cut file).pieces

-- putting the rows of the finished lines in some bytes at the start of an output, as far as there is room
pub record PutsRows (number : ℕ) (bytes before : List ℕ) (answer : Rows) (after : List ℕ) : Type 0 where
  pub counts : answer.lines ≡ finished_in bytes
  pub puts : Puts (rows_of number (cut bytes).pieces) before 0 answer.size after
