-- `edition::known::is_known` meets its contract: the branch says whether it is retired, and else the test is that of `current`.
use mathlib.Core.Path.{sym, ◌∙◌}
use Rattle.edition.proofs.known.is_known.Goals as goal

pub returns-then-is_retired : goal.returns-then-is_retired
returns-then-is_retired c = c.if-is_retired.true ∙ sym (rw (sym c.is_retired.ensures ∙ c.if-is_retired.true))

pub returns-else-is_retired : goal.returns-else-is_retired
returns-else-is_retired c = rw (sym c.is_retired.ensures ∙ c.if-is_retired.false)
