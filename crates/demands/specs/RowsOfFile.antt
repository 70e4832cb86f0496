-- THE ADJUSTMENTS OF AN ACCEPTED FILE AS CSV: which rows there are, and what does and does not stand in them.
use Rattle.std.specs.Prelude.{ℕ, suc, ◌+◌, ◌≡◌, List, [], ◌∷◌, ◌++◌, cond, length}
use Rattle.lines.specs.Lines.{cut}
use Rattle.card_content.specs.EqualOutside.{EqualOutside}
use Rattle.card_run.specs.Answer.{card_file_row}
use Rattle.card_file.specs.CardFile.{check_of}
use Rattle.card_kept.specs.Kept.{Kept, records_of}
use Rattle.card_kept.specs.State.{is_a}
use Rattle.adjustment_rows.specs.Fields.{quoted}
use Rattle.adjustment_rows.specs.Row.{header, row_of}
use Rattle.adjustment_rows.specs.Rows.{csv_of}

-- the rows of the adjustments among records, the first of which has this number
unfoldable pub plain_rows : ℕ → List (List ℕ) → List ℕ
plain_rows number [] = []
plain_rows number (r ∷ rs) = cond (is_a "AJ" r) (row_of number r) [] ++ plain_rows (suc number) rs

pub record RowsOfFile : Type 0 where
  -- a row for each adjustment, in the file's order, with the number of its record
  pub rows : (edition : ℕ) (file : List ℕ) (kept : Kept edition file) → csv_of file ≡ header ++ plain_rows 1 (records_of kept.file)
  -- behind the header so many lines as the answer counts credits and debits, and nothing behind the last LF: no text breaks a line
  pub as_many : (edition : ℕ) (file : List ℕ) → Kept edition file →
      let numbers = (card_file_row (check_of edition file)).numbers in
      (length (cut (csv_of file)).pieces ≡ suc (numbers.credits.count + numbers.debits.count)) × ((cut (csv_of file)).rest ≡ [])
  -- "no card": records that differ in the card alone, whatever stands there, have the same row
  pub no_card_lem : (number : ℕ) (r s : List ℕ) → EqualOutside 162 181 r s → row_of number r ≡ row_of number s
  -- "all their bytes": no two texts look alike
  pub no_byte_lost : (s t : List ℕ) → quoted s ≡ quoted t → s ≡ t
