-- `adjustment_rows::row::put_amount_field` meets its contract: the amount and a comma.
use Rattle.adjustment_rows.proofs.Separating.{one}
use Rattle.adjustment_rows.proofs.row.put_amount_field.Goals as goal

pub returns : goal.returns
returns c = one c.put_amount-behind_amount.ensures c.text.ensures
