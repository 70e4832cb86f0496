-- The layouts of a day sheet: a table of places for each version, which writing and reading go by.
use Rattle.std.specs.Prelude.{ℕ, ◌+◌, List, [], ◌∷◌, ◌++◌, Bool, true, ◌&&◌, take, drop}
use Rattle.day_sheet.specs.declared.number.Form.TheVariants.{Bytes, Digits}
use Rattle.day_sheet.specs.declared.layout.Place.{Place}
use Rattle.day_sheet.specs.declared.layout.Version.{Version}
use Rattle.day_sheet.specs.declared.layout.Version.TheVariants.{One, Two}
use Rattle.day_sheet.specs.Number.{base, zero_byte, holds_right, in_base, value_in}

-- a number's place: how many bytes it takes, and in which form
abbrev pub bytes : ℕ → Place
bytes width = record { width = width; form = Bytes }

abbrev pub digits : ℕ → Place
digits width = record { width = width; form = Digits }

-- "52 bytes, numbers high byte first: "DSH"", and behind that mark
abbrev pub version1 : List Place
version1 =
    bytes 2 ∷  -- "version, 16 bits"
    bytes 1 ∷  -- "edition, 1 byte"
    digits 8 ∷  -- "A0 date, 8 ASCII digits"
    digits 6 ∷  -- "movement, 6"
    bytes 4 ∷  -- "batches and sales, 4 bytes each"
    bytes 4 ∷
    bytes 8 ∷  -- "gross, discount, net, 8 bytes each"
    bytes 8 ∷
    bytes 8 ∷ []

-- "version 1's layout .., then"
abbrev pub version2 : List Place
version2 =
    version1 ++
    (bytes 1 ∷  -- "one byte that is 1 if the split is known and 0 if not"
    bytes 4 ∷  -- "the forecast's count (4 bytes)"
    bytes 8 ∷  -- "and three totals (8 each)"
    bytes 8 ∷
    bytes 8 ∷ [])

abbrev pub table_of : Version → List Place
table_of One = version1
table_of Two = version2

-- how many bytes a table takes
unfoldable pub table_width : List Place → ℕ
table_width [] = 0
table_width (p ∷ ps) = p.width + table_width ps

-- numbers, each in its place, in a row
unfoldable pub in_places : List Place → List ℕ → List ℕ
in_places [] ns = []
in_places (p ∷ ps) [] = []
in_places (p ∷ ps) (n ∷ ns) = in_base (base p.form) (zero_byte p.form) p.width n ++ in_places ps ns

-- the numbers that stand in places in a row
unfoldable pub from_places : List Place → List ℕ → List ℕ
from_places [] s = []
from_places (p ∷ ps) s = value_in (base p.form) (zero_byte p.form) 0 (take p.width s) ∷ from_places ps (drop p.width s)

-- whether each place of digits holds digits alone
unfoldable pub digits_right : List Place → List ℕ → Bool
digits_right [] s = true
digits_right (p ∷ ps) s = holds_right p.form (take p.width s) && digits_right ps (drop p.width s)
