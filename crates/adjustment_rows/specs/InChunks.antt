-- The CSV of a file that comes in chunks: the rows of what is finished are written, and the unfinished record waits in front of the next chunk.
use Rattle.std.specs.Prelude.{ℕ}
use mathlib.Core.List.{List, [], ◌++◌, foldl}
use Rattle.totals.specs.Sum.{capped}
use Rattle.lines.specs.Lines.{cut}
use Rattle.adjustment_rows.specs.Row.{header}
use Rattle.adjustment_rows.specs.Rows.{rows_of}

-- what is written, what waits, and which record of the file that is
pub record Tabled : Type 0 where
  pub written : List ℕ
  pub waiting : List ℕ
  pub number : ℕ

abbrev pub only_header : Tabled
only_header = record { written = header; waiting = []; number = 1 }

-- the number behind so many records
abbrev pub number_behind : ℕ → List (List ℕ) → ℕ
number_behind number ps = foldl (λ (n : ℕ) (p : List ℕ). capped n 1) number ps

-- one chunk, behind what waits
abbrev pub tabled_over : Tabled → List ℕ → Tabled
tabled_over t chunk =
    record {
      written = t.written ++ rows_of t.number (cut (t.waiting ++ chunk)).pieces;
      waiting = (cut (t.waiting ++ chunk)).rest;
      number = number_behind t.number (cut (t.waiting ++ chunk)).pieces;
    }
