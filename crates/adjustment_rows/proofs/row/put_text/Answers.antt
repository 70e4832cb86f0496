-- `adjustment_rows::row::put_text` meets its contract: the text and a comma.
use Rattle.adjustment_rows.proofs.Separating.{one}
use Rattle.adjustment_rows.proofs.row.put_text.Goals as goal

pub returns : goal.returns
returns c = one c.put_quoted-behind_text.ensures c.text.ensures
