-- `adjustment_rows::row::put_amounts` meets its contract: two amounts with a comma, and the last with an LF.
use mathlib.Core.List.{[], ◌∷◌}
use Rattle.adjustment_rows.proofs.Separating.{more, ended, closed}
use Rattle.adjustment_rows.proofs.row.put_amounts.Goals as goal

pub returns : goal.returns
returns c =
    ended (_ ∷ _ ∷ []) (more (_ ∷ []) c.put_amount_field-behind_gross.ensures (_ ∷ []) c.put_amount_field-behind_discount.ensures) _ []
    (closed c.put_amount-behind_net.ensures c.text.ensures)
