-- `adjustment_rows::row::put_reason` meets its contract: two fields, one behind the other.
use mathlib.Core.List.{[], ◌∷◌}
use Rattle.adjustment_rows.proofs.Separating.{more}
use Rattle.adjustment_rows.proofs.row.put_reason.Goals as goal

pub returns : goal.returns
returns c =
    more (_ ∷ []) (rw c.part.ensures.holds at c.put_plain-behind_code.ensures) (_ ∷ [])
    (rw c.part-2.ensures.holds at c.put_text.ensures)
