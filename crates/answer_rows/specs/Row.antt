-- What every row of numbers begins with: "A refusal is a number, a record number from 1 and a column", zeros where nothing is refused.
use Rattle.std.specs.Prelude.{ℕ, Bool, true, false, List, [], ◌∷◌}
use Rattle.refusal.specs.Row.{RefusalRow}

abbrev pub refusal_as_list : RefusalRow → List ℕ
refusal_as_list row = row.number ∷ row.record_number ∷ row.column ∷ []

-- a yes or no as a number
abbrev pub as_number : Bool → ℕ
as_number true = 1
as_number false = 0
