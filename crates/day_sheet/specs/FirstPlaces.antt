-- No sentence of the papers: the first places of the longer table, by which both versions are written and read.
use Rattle.std.specs.Prelude.{ℕ, ◌+◌, ◌≤◌, List, ◌++◌, length, take, drop}
use Rattle.text.specs.Literal.{ascii}
use Rattle.day_sheet.specs.declared.layout.Place.{Place}
use Rattle.day_sheet.specs.Layout.{version2, table_width, in_places}

abbrev pub first_places : ℕ → List Place
first_places n = take n version2

-- bytes have so many places, behind the mark
abbrev pub RoomFor : ℕ → List ℕ → Type 0
RoomFor n s = (n ≤ 14) × (3 + table_width (first_places n) ≤ length s)

-- an output into which the mark and so many numbers were put
abbrev pub filled_with : List ℕ → List ℕ → List ℕ
filled_with ns out =
    ascii "DSH" ++ (in_places (first_places (length ns)) ns ++ drop (3 + table_width (first_places (length ns))) out)
