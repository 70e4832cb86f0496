-- `adjustment_rows::row::put_type` meets its contract: the test's value picks the case of `type_text`.
use Rattle.adjustment_rows.specs.Row.{type_text}
use Rattle.adjustment_rows.proofs.row.put_type.Goals as goal

pub returns-then-credit : goal.returns-then-credit
unfolding type_text
returns-then-credit c = rw c.if-credit.true c.put_plain.ensures

pub returns : goal.returns
unfolding type_text
returns c = rw c.if-credit.false c.put_plain-2.ensures
