-- The numbers of a day sheet in the order of the layout, and its bytes.
use Rattle.std.specs.Prelude.{ℕ, ◌+◌, List, [], ◌∷◌, ◌++◌, get_or}
use Rattle.text.specs.Literal.{ascii}
use Rattle.totals.specs.declared.amounts.Totals.{Totals}
use Rattle.totals.specs.Amounts.{no_totals}
use Rattle.totals.specs.TwoSets.{sets_of}
use Rattle.day_sheet.specs.declared.layout.Version.{Version}
use Rattle.day_sheet.specs.declared.layout.Version.TheVariants.{One, Two}
use Rattle.sheet_numbers.specs.declared.sheet.Heading.{Heading}
use Rattle.sheet_numbers.specs.declared.sheet.Sheet.{Sheet}
use Rattle.sheet_numbers.specs.declared.sheet.Sheet.TheVariants.{Version1, Version2}
use Rattle.day_sheet.specs.Layout.{table_of, in_places}

abbrev pub version_of : Sheet → Version
version_of (Version1 heading totals) = One
version_of (Version2 heading split sets) = Two

-- the numbers of the longer table, in its order
abbrev pub row_of : ℕ → Heading → Totals → ℕ → Totals → List ℕ
row_of version h t split u =
    version ∷ h.edition ∷ h.date ∷ h.movement ∷ h.batches ∷ t.sales ∷ t.amounts.gross ∷ t.amounts.discount ∷ t.amounts.net ∷
    split ∷ u.sales ∷ u.amounts.gross ∷ u.amounts.discount ∷ u.amounts.net ∷ []

-- a sheet's row: in version 2 "its sales and totals now settled only", then the split and the forecast's; version 1 has zeros there
unfoldable pub sheet_row : Sheet → List ℕ
sheet_row (Version1 heading totals) = row_of 1 heading totals 0 no_totals
sheet_row (Version2 heading split sets) = row_of 2 heading sets.settled split sets.forecast

-- the bytes of a sheet: of its row, what its own table has places for
unfoldable pub bytes_of : Sheet → List ℕ
bytes_of s = ascii "DSH" ++ in_places (table_of (version_of s)) (sheet_row s)

-- and the sheet that has such numbers
abbrev pub heading_of : List ℕ → Heading
heading_of ns = record { edition = get_or ns 1 0; date = get_or ns 2 0; movement = get_or ns 3 0; batches = get_or ns 4 0 }

-- the four numbers from number k on
abbrev pub totals_from : ℕ → List ℕ → Totals
totals_from k ns =
    record {
      sales = get_or ns k 0;
      amounts = record { gross = get_or ns (k + 1) 0; discount = get_or ns (k + 2) 0; net = get_or ns (k + 3) 0 };
    }

abbrev pub sheet_of : Version → List ℕ → Sheet
sheet_of One ns = Version1 (heading_of ns) (totals_from 5 ns)
sheet_of Two ns = Version2 (heading_of ns) (get_or ns 9 0) (sets_of (totals_from 10 ns) (totals_from 5 ns))
