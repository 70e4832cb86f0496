-- The edition that a sheet carries.
use Rattle.std.specs.Prelude.{ℕ}
use Rattle.sheet_numbers.specs.declared.sheet.Sheet.{Sheet}
use Rattle.sheet_numbers.specs.declared.sheet.Sheet.TheVariants.{Version1, Version2}

abbrev pub sheet_edition : Sheet → ℕ
sheet_edition (Version1 heading totals) = heading.edition
sheet_edition (Version2 heading split sets) = heading.edition
