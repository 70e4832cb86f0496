-- `adjustment_rows::amount::put_amount` meets its contract: the whole part, and behind it the point and two digits.
use Rattle.wording.proofs.Putting.{both}
use Rattle.adjustment_rows.specs.Fields.{amount_text}
use Rattle.adjustment_rows.proofs.amount.put_amount.Goals as goal

pub returns : goal.returns
unfolding amount_text
returns c = both c.number-behind_whole.ensures c.text.ensures
