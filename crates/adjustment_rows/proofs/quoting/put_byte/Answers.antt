-- `adjustment_rows::quoting::put_byte` meets its contract: the test's value picks the case of `doubled`.
use borrow.Author.Tests.{eq-eqb, ne_eqb}
use Rattle.adjustment_rows.specs.Fields.{doubled}
use Rattle.adjustment_rows.proofs.quoting.put_byte.Goals as goal

pub returns-then-byte-eq34 : goal.returns-then-byte-eq34
unfolding doubled
returns-then-byte-eq34 c = rw (eq-eqb _ _ c.if-byte-eq34.true) c.text.ensures

pub returns : goal.returns
unfolding doubled
returns c = rw (ne_eqb _ _ c.if-byte-eq34.false) c.text-2.ensures
