-- The numbers of a sheet's row, behind three zeros, are the row of what reading it answers.
use mathlib.Core.Path.{◌≡◌, refl}
use mathlib.Core.List.{◌∷◌}
use Rattle.std.specs.Prelude.{Ok}
use Rattle.sheet_numbers.specs.declared.sheet.Sheet.{Sheet}
use Rattle.sheet_numbers.specs.declared.sheet.Sheet.TheVariants.{Version1, Version2}
use Rattle.day_sheet.specs.Answer.{read_row}
use Rattle.day_sheet.specs.Sheet.{sheet_row}
use Rattle.answer_rows.specs.Sheet.{sheet_numbers}

pub of_row : (s : Sheet) → 0 ∷ 0 ∷ 0 ∷ sheet_row s ≡ sheet_numbers (Ok s)
unfolding sheet_row read_row
of_row (Version1 heading totals) = refl
of_row (Version2 heading split sets) = refl
