-- `adjustment_rows::row::put_store` meets its contract: two fields, one behind the other.
use mathlib.Core.List.{[], ◌∷◌}
use Rattle.adjustment_rows.proofs.Separating.{one, more}
use Rattle.adjustment_rows.proofs.row.put_store.Goals as goal

pub returns : goal.returns
returns c =
    more (_ ∷ []) (one c.number-behind_number.ensures c.text-behind_comma.ensures) (_ ∷ [])
    (rw c.part.ensures.holds at c.put_text.ensures)
