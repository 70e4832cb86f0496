-- `adjustment_rows::rows::put_piece` meets its contract: the test's value picks the case of `row_in`.
use mathlib.Core.Path.{sym, ◌∙◌}
use Rattle.adjustment_rows.specs.Rows.{row_in}
use Rattle.adjustment_rows.proofs.rows.put_piece.Goals as goal

pub returns-then-has_row : goal.returns-then-has_row
unfolding row_in
returns-then-has_row c = rw (sym c.has_row.ensures ∙ c.if-has_row.true) (rw c.without_last.ensures.holds at c.put_row.ensures)

pub returns : goal.returns
unfolding row_in
returns c = rw (sym c.has_row.ensures ∙ c.if-has_row.false) c.text.ensures
