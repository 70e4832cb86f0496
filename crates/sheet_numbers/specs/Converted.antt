-- A sheet in the other version.
use Rattle.totals.specs.Amounts.{no_totals}
use Rattle.totals.specs.TwoSets.{sets_of, both_sets}
use Rattle.sheet_numbers.specs.declared.sheet.Sheet.{Sheet}
use Rattle.sheet_numbers.specs.declared.sheet.Sheet.TheVariants.{Version1, Version2}

-- "A version 1 sheet becomes version 2 with split 0, all in the settled places and forecast zero. A version 2 sheet becomes version 1 by adding both."
unfoldable pub converted : Sheet → Sheet
converted (Version1 heading totals) = Version2 heading 0 (sets_of no_totals totals)
converted (Version2 heading split sets) = Version1 heading (both_sets sets)
