-- The numbers of a sheet to write, eight bytes each, one behind the other: edition, date, movement, batches, sales, gross, discount, net; in version 2 those
-- from the sales on are the settled's, and the split and the forecast's four follow.
use Rattle.std.specs.Prelude.{ℕ, ◌+◌, ◌*◌, List}
use Rattle.totals.specs.declared.amounts.Totals.{Totals}
use Rattle.totals.specs.TwoSets.{sets_of}
use Rattle.day_sheet.specs.declared.layout.Version.{Version}
use Rattle.day_sheet.specs.declared.layout.Version.TheVariants.{One, Two}
use Rattle.sheet_numbers.specs.declared.sheet.Heading.{Heading}
use Rattle.sheet_numbers.specs.declared.sheet.Sheet.{Sheet}
use Rattle.sheet_numbers.specs.declared.sheet.Sheet.TheVariants.{Version1, Version2}
use Rattle.cases.specs.Cursor.{bytes_at, high_first}

-- how many bytes they take: eight numbers, or thirteen
abbrev pub size_of : Version → ℕ
size_of One = 64
size_of Two = 104

-- number k, from 0
unfoldable pub number_in : List ℕ → ℕ → ℕ
number_in s k = high_first 0 (bytes_at s (k * 8) 8)

unfoldable pub heading_in : List ℕ → Heading
heading_in s = record { edition = number_in s 0; date = number_in s 1; movement = number_in s 2; batches = number_in s 3 }

-- the four numbers from number k on
unfoldable pub totals_from : List ℕ → ℕ → Totals
totals_from s k =
    record {
      sales = number_in s k;
      amounts = record { gross = number_in s (k + 1); discount = number_in s (k + 2); net = number_in s (k + 3) };
    }

abbrev pub sheet_in : Version → List ℕ → Sheet
sheet_in One s = Version1 (heading_in s) (totals_from s 4)
sheet_in Two s = Version2 (heading_in s) (number_in s 8) (sets_of (totals_from s 9) (totals_from s 4))
