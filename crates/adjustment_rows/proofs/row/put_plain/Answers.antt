-- `adjustment_rows::row::put_plain` meets its contract: the field and a comma.
use Rattle.adjustment_rows.proofs.Separating.{one}
use Rattle.adjustment_rows.proofs.row.put_plain.Goals as goal

pub returns : goal.returns
returns c = one c.text-behind_field.ensures c.text.ensures
