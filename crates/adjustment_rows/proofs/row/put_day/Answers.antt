-- `adjustment_rows::row::put_day` meets its contract: the test's value picks the case of `day_text`.
use mathlib.Core.Path.{sym, ◌∙◌}
use Rattle.adjustment_rows.specs.Row.{day_text}
use Rattle.adjustment_rows.proofs.row.put_day.Goals as goal

pub returns-then-equals : goal.returns-then-equals
unfolding day_text
returns-then-equals c = rw (sym c.equals.ensures ∙ c.if-equals.true) c.put_plain.ensures

pub returns : goal.returns
unfolding day_text
returns c = rw (sym c.equals.ensures ∙ c.if-equals.false) c.put_plain-2.ensures
